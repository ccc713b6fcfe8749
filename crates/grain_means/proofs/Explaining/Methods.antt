-- Why a chain's walk ends in a fault: method steps.
use Rattle.std.proofs.Common.{◌≡◌, ◌+◌, ℕ, Bool, true, false, List, [], ◌∷◌, Option, Some, None, drop, refl, inl, inr}
use Rattle.std.specs.Prelude.{bytes_eq, codes, is_some, if◌then◌else◌}
use Rattle.std.proofs.lemmas.Slice.Eq.{bytes_eq-Decides}
use Rattle.grain_value.specs.Cells.{flat}
use Rattle.grain_value.specs.Looking.{cell_of, pointer_of}
use Rattle.grain_value.specs.Writing.{type_name_of}
use Rattle.grain_value.specs.declared.values.Dynamic.{Dynamic}
use Rattle.grain_value.specs.declared.values.Dynamic.TheVariants as dynamic
use Rattle.grain_value.specs.declared.values.FnPtr.{FnPtr}
use Rattle.grain_fault.specs.Problems.{Plain, MismatchDataType}
use Rattle.grain_fault.specs.declared.places.Position.{Position}
use Rattle.grain_program.specs.Lookups.{method_of}
use Rattle.grain_program.specs.View.{name_of}
use Rattle.grain_program.specs.declared.code.chains.Step.{Step}
use Rattle.grain_program.specs.declared.code.chains.Step.TheVariants as step
use Rattle.grain_program.specs.declared.code.chains.StepFlags.{StepFlags}
use Rattle.grain_means.specs.Worlds.{Answer, Came, Failed, Place, Setup, World}
use Rattle.grain_means.specs.Places.{look}
use Rattle.grain_means.specs.Tasks.{Call, Method, Numbered, Pointed, Task}
use Rattle.grain_means.specs.Walks as walks
use Rattle.grain_means.specs.Walks.{Next, OfMethod, Rest, Setting, role_before}
use Rattle.grain_means.specs.Causes.Spots.{AsksPointerOf, ChainWalk, looked, here, world_of}
use Rattle.grain_means.proofs.Explaining.Ways.{join, On, Why, From, Goes, Follows, ill, fails, reads_at, call_of, Hears, asks, failing_call, invokes, native_row}
use Rattle.grain_means.proofs.Explaining.Calls.{into_answer, own_value}

module _ {S : Type 0} (m : Setup S) (sure : Bool) (c : ChainWalk S) (n : ℕ) (left : List Step) where
  -- the walk further on, after the step
  abbrev Later : Next
  Later = walks.walked c.course left (n + 1)

  abbrev setting : Setting
  setting = c.course.setting

  abbrev last : Bool
  last = walks.reads (role_before c.course left)

  -- a method step of the chain, at a place in a world
  module _ (on : Goes m sure c Later) (p : Place) (done : Rest) (f : Follows m sure c done) (v : World S)
      (name argc first : ℕ) (flags : StepFlags) (q : Position)
      (stands : drop n c.steps ≡ step.Method name argc first flags q ∷ left)
      (come : On m sure c (walks.taken c.course (step.Method name argc first flags q) n
      (role_before c.course left) Later p done) v) where
    abbrev args : List Dynamic
    args = walks.operands_from c.course first argc

    abbrev text : List ℕ
    text = name_of setting.program name

    abbrev d : Dynamic
    d = (look v.roots (world_of m c p)).value

    -- the walk goes on with what the step gave
    gives : (u : Dynamic) → From m sure c (walks.gave setting n q args last Later p done u)
    gives u = by_last last where
      by_last : (b : Bool) → From m sure c (walks.into_answer setting n q b OfMethod Later p done u)
      by_last true = own_value m sure c n OfMethod done f u
      by_last false = into_answer m sure c n q OfMethod Later on p done f u

    abbrev answered : Answer → Task
    answered = walks.method_answered setting n q args last Later p done

    -- a native answers
    hears : (call : Call) → call.step ≡ n → Hears m sure c n call answered
    hears call at v2 come2 (Came u) after ends reason w arrived = gives u w arrived
    hears call at v2 come2 (Failed x) after ends reason w arrived =
        ill m sure c n x done f (native_row m sure c n x
        (failing_call m sure c n call at answered v2 come2 x after ends reason) (λ known. f.falls n x)) w

    -- a value that is to be a pointer is none
    no_pointer : (u : Dynamic) → pointer_of u ≡ None → AsksPointerOf text args v.cells d u →
        From m sure c (walks.no_pointer setting n q args last Later p done u)
    no_pointer u none asked =
        let x = Plain (MismatchDataType (codes "Fn") (type_name_of u)) q in
        fails m sure c n x done f (λ known. inr (inr (inr (inr (inr (inr (inr (inr (inr (inl (record {
          name = name;
          argc = argc;
          first = first;
          flags = flags;
          position = q;
          at = record {
            left = left;
            stands = stands;
            place = p;
            rest = done;
            world = v;
            comes = come;
          };
          value = u;
          asked = asked;
          none = none;
          is = refl;
          last = f.falls n x;
        })))))))))))

    -- a function is called
    calls : (method : Method) (this : Option Place) (vs : List Dynamic) →
        From m sure c (walks.invoking n q method this vs done answered)
    calls method this vs = invokes m sure c n q method this vs done answered f (λ x. f.falls n x) gives

    -- the first argument is called
    first_called : text ≡ codes "call" → pointer_of d ≡ None → (u : Dynamic) (us : List Dynamic) →
        args ≡ u ∷ us → (w : Dynamic) → flat v.cells u ≡ Some w → (o : Option FnPtr) →
        pointer_of w ≡ o →
        From m sure c (walks.first_called setting n q args last Later p done o w us)
    first_called named none u us are w read None e =
        no_pointer w e (inr (named, none, (u, us, are, read)))
    first_called named none u us are w read (Some r) e = calls (Pointed r) (Some p) us

    called_on : text ≡ codes "call" → pointer_of d ≡ None → (us : List Dynamic) → args ≡ us →
        On m sure c (walks.called_on setting n q args last Later p done d us) v →
        Why m sure c (walks.called_on setting n q args last Later p done d us) v
    called_on named none [] are at = no_pointer d none (inl (refl, inr (named, are))) v at
    called_on named none (u ∷ us) are at =
        reads_at m sure c n q u done
        (λ w. walks.first_called setting n q args last Later p done (pointer_of w) w us) f v
        (λ w read arrived. first_called named none u us are w read (pointer_of w) refl v arrived) at

    call_step : text ≡ codes "call" → (o : Option FnPtr) → pointer_of d ≡ o →
        On m sure c (walks.call_step setting n q args last Later p done o d) v →
        Why m sure c (walks.call_step setting n q args last Later p done o d) v
    call_step named None e at = called_on named e args refl at
    call_step named (Some r) e at = calls (Pointed r) None args v at

    curry_step : text ≡ codes "curry" → (o : Option FnPtr) → pointer_of d ≡ o →
        From m sure c (walks.curry_step setting n q args last Later p done o d)
    curry_step named None e = no_pointer d e (inl (refl, inl named))
    curry_step named (Some r) e = gives (dynamic.Pointer (walks.with_values r args))

    by_method : (o : Option ℕ) →
        From m sure c (walks.by_method setting n q args last Later p done o text)
    by_method None =
        asks m sure c n q text (Some p) args done answered f (λ x e. f.falls n x)
        (hears (call_of m sure c n q text (Some p) args) refl)
    by_method (Some i) = calls (Numbered i) (Some p) args

    by_own : (o : Option FnPtr) →
        From m sure c (walks.by_own setting n q args last Later p done o name argc d)
    by_own None = by_method (method_of setting.program name argc (type_name_of d))
    by_own (Some r) = calls (Pointed r) (Some p) args

    -- by the name of the step
    by_name : On m sure c (walks.method_at setting n q args last Later p done name argc text
        (look v.roots (world_of m c p))) v →
        Why m sure c (walks.method_at setting n q args last Later p done name argc text
        (look v.roots (world_of m c p))) v
    by_name arrived = by_shared (walks.asks_shared text argc) arrived where
      shared : Task
      shared = walks.gave setting n q args last Later p done (dynamic.Bool (is_some (cell_of d)))

      calling : Task
      calling = walks.call_step setting n q args last Later p done (pointer_of d) d

      currying : Task
      currying = walks.curry_step setting n q args last Later p done (pointer_of d) d

      other : Task
      other = walks.by_own setting n q args last Later p done (walks.own_pointer text d) name argc d

      by_curry : (b : Bool) → bytes_eq text (codes "curry") ≡ b →
          On m sure c (if b then currying else other) v → Why m sure c (if b then currying else other) v
      by_curry true e at =
          curry_step ((bytes_eq-Decides text (codes "curry")).0 e) (pointer_of d) refl v at
      by_curry false e at = by_own (walks.own_pointer text d) v at

      by_call : (b : Bool) → bytes_eq text (codes "call") ≡ b →
          On m sure c (if b then calling else if bytes_eq text (codes "curry") then currying else other) v →
          Why m sure c (if b then calling else if bytes_eq text (codes "curry") then currying else other) v
      by_call true e at =
          call_step ((bytes_eq-Decides text (codes "call")).0 e) (pointer_of d) refl at
      by_call false e at = by_curry (bytes_eq text (codes "curry")) refl at

      by_shared : (b : Bool) →
          On m sure c (if b then shared else if bytes_eq text (codes "call") then calling
          else if bytes_eq text (codes "curry") then currying else other) v →
          Why m sure c (if b then shared else if bytes_eq text (codes "call") then calling
          else if bytes_eq text (codes "curry") then currying else other) v
      by_shared true at = gives (dynamic.Bool (is_some (cell_of d))) v at
      by_shared false at = by_call (bytes_eq text (codes "call")) refl at

    pub method_step : Why m sure c (walks.taken c.course (step.Method name argc first flags q) n
        (role_before c.course left) Later p done) v
    method_step = by_name (join m sure c come (looked here))
