-- Where a walk calls a function under a place, that place is there: the steps, and whole walks.
use Rattle.std.proofs.Common.{◌≡◌, ◌+◌, ◌-◌, ◌∙◌, ℕ, Bool, true, false, List, [], ◌∷◌, Option, Some, None, Result, Ok, Err, length, is_some, refl, sym, subst, arith, append-nil}
use Rattle.std.specs.Prelude.{bytes_eq, codes, if◌then◌else◌}
use Rattle.grain_value.specs.Looking.{cell_of, is_unit, pointer_of}
use Rattle.grain_value.specs.Locating.{locate}
use Rattle.grain_value.specs.Maps.{entry_at}
use Rattle.grain_value.specs.Parts.{part}
use Rattle.grain_value.specs.Tree.{Tree}
use Rattle.grain_value.specs.Writing.{type_name_of}
use Rattle.grain_value.specs.declared.values.Dynamic.{Dynamic}
use Rattle.grain_value.specs.declared.values.Dynamic.TheVariants as dynamic
use Rattle.grain_value.specs.declared.values.FnPtr.{FnPtr}
use Rattle.grain_value.specs.declared.values.Held.{Held}
use Rattle.grain_value.specs.declared.values.locating.Spot.{Spot}
use Rattle.grain_value.specs.declared.values.locating.Spot.TheVariants as spot
use Rattle.grain_value.specs.declared.values.paths.PathStep.{PathStep}
use Rattle.grain_value.specs.declared.values.paths.PathStep.TheVariants as path_step
use Rattle.grain_value.specs.declared.values.value_faults.ValueFault.{ValueFault}
use Rattle.grain_value.specs.declared.values.value_faults.ValueFault.TheVariants as fault
use Rattle.grain_fault.specs.Problems.{Plain, NoMemory, PropertyNotFound}
use Rattle.grain_fault.specs.declared.places.Position.{Position}
use Rattle.grain_program.specs.Lookups.{method_of}
use Rattle.grain_program.specs.View.{name_of}
use Rattle.grain_program.specs.declared.code.parts.AssignOp.{AssignOp}
use Rattle.grain_program.specs.declared.code.chains.Step.{Step}
use Rattle.grain_program.specs.declared.code.chains.Step.TheVariants as step
use Rattle.grain_means.specs.Places.{deeper, look, put}
use Rattle.grain_means.specs.Rules.{placed}
use Rattle.grain_means.specs.Tasks.{WalkEnded, WalkFailed, Task, Done, Write}
use Rattle.grain_means.specs.Walks as walks
use Rattle.grain_means.specs.Walks.{Setting, Course, Rest, Next, Role, Passes, Reads, Writes, Operates, Origin, OfIndex, OfProperty, OfMethod, OfNothing, at_mark, assigning, failing, is_indexed, origin_of_part, role_at_end, skips}
use Rattle.grain_means.specs.Worlds.{Place, Answer}
use Rattle.grain_means.proofs.Touching.Children.{HasChild, entry_child, found_deeper, item_child, key_child}
use Rattle.grain_means.proofs.Touching.Tasks.{Binds, Follows, Goes, GoesAnywhere, Sized, asks, by, fails, gets_property, given, index_read, into_answer, operates, reads, roots, sets_index, sets_property}
use Rattle.grain_means.proofs.Touching.Writes.{Found}

module _ (p0 : Place) (n0 : ℕ) where
  -- after a step that assigns no step follows
  abbrev Last : Role → Next → Type 0
  Last role next = assigning role ≡ true → GoesAnywhere p0 n0 next

  -- a step of the chain, at a place that is there
  module _ (n : ℕ) (g : Setting) (next : Next) (on : Goes p0 n0 next) (q : Place) (done : Rest)
      (f : Follows p0 n0 done) (rs : List Held) (size : length rs ≡ n0 + q.root)
      (found : Found rs (placed p0 n0 q)) where
    abbrev here : Held
    here = look rs (placed p0 n0 q)

    abbrev Keeps : Task → Type 0
    Keeps t = Binds p0 n0 rs t

    missing_key : (x : Position) (o : Origin) (role : Role) → Last role next → (k : List ℕ) (h : Held) →
        Keeps (walks.missing_key g n x o role k h next q done)
    missing_key x o role last k h = by_role (assigning role) refl where
      by_role : (b : Bool) → assigning role ≡ b → Keeps (if b
          then at_mark n done
          (Write q (walks.with_key k h.value) (next (deeper q (path_step.Key k)) done))
          else (if g.engine.strict_properties then failing n (Plain (PropertyNotFound k) x) done
          else walks.rooted g n o (record h { value = dynamic.Unit }) next q done))
      by_role true is = (
        f (WalkFailed n NoMemory) rs,
        last is (deeper q (path_step.Key k)) done f (put rs (placed p0 n0 q) (walks.with_key k h.value)),
      )
      by_role false is =
          by p0 n0 g.engine.strict_properties rs (failing n (Plain (PropertyNotFound k) x) done)
          (walks.rooted g n o (record h { value = dynamic.Unit }) next q done)
          (fails p0 n0 n done f (Plain (PropertyNotFound k) x) rs)
          (roots p0 n0 n done f g next on q (n0 + q.root) refl o (record h { value = dynamic.Unit }) rs
          size)

    answered : (x : Position) (own : Bool) (o : Origin) (v : Dynamic) →
        Sized p0 n0 (n0 + q.root) (walks.into_answer g n x own o next q done v)
    answered x own o v = into_answer p0 n0 n done f g next on q (n0 + q.root) refl x own o v

    by_indexer : (x bracket : Position) (role : Role) (i : Dynamic) →
        Keeps (walks.by_indexer g n x bracket role i next q done)
    by_indexer x bracket (Writes v) i =
        sets_index p0 n0 n done f (n0 + q.root) bracket q i v dynamic.Unit rs size
    by_indexer x bracket (Operates v a) i =
        asks p0 n0 n done f (n0 + q.root) bracket walks.index_get (Some q) (i ∷ [])
        (walks.index_was_read n bracket q i v done
        (walks.into_answer g n bracket false (OfIndex i bracket) (walks.operating g n bracket a v) q
        done))
        (index_read p0 n0 n done f (n0 + q.root)
        (walks.into_answer g n bracket false (OfIndex i bracket) (walks.operating g n bracket a v) q done)
        (into_answer p0 n0 n done f g (walks.operating g n bracket a v)
        (λ r after follows now many there. operates p0 n0 n after follows g bracket a v r now)
        q (n0 + q.root) refl bracket false (OfIndex i bracket)) bracket q i v) rs size
    by_indexer x bracket Passes i =
        asks p0 n0 n done f (n0 + q.root) bracket walks.index_get (Some q) (i ∷ [])
        (walks.was_given n done (walks.into_answer g n x false (OfIndex i bracket) next q done))
        (given p0 n0 n done f (n0 + q.root)
        (walks.into_answer g n x false (OfIndex i bracket) next q done)
        (answered x false (OfIndex i bracket))) rs size
    by_indexer x bracket Reads i =
        asks p0 n0 n done f (n0 + q.root) bracket walks.index_get (Some q) (i ∷ [])
        (walks.was_given n done (walks.into_answer g n x true (OfIndex i bracket) next q done))
        (given p0 n0 n done f (n0 + q.root)
        (walks.into_answer g n x true (OfIndex i bracket) next q done)
        (answered x true (OfIndex i bracket))) rs size

    indexed : (x bracket : Position) (role : Role) → Last role next → (i v : Dynamic)
        (r : Result Spot ValueFault) → locate here.value v ≡ r →
        Keeps (walks.indexed g n x bracket role i v here next q done r)
    indexed x bracket role last i v (Ok (spot.Item k)) is = (
      f (WalkFailed n NoMemory) rs,
      on (deeper q (path_step.Index k)) done f rs size
          (found_deeper p0 n0 rs q (path_step.Index k) found (item_child here.value v k is)),
    )
    indexed x bracket role last i v (Ok spot.Key) is = (
      f (WalkFailed n NoMemory) rs,
      on (deeper q (path_step.Key (walks.key_of v))) done f rs size
          (found_deeper p0 n0 rs q (path_step.Key (walks.key_of v)) found (key_child here.value v is)),
    )
    indexed x bracket role last i v (Ok s) is =
        roots p0 n0 n done f g next on q (n0 + q.root) refl (origin_of_part role s)
        (record here { value = part here.value s }) rs size
    indexed x bracket role last i v (Err (fault.Bounds many k)) is = fails p0 n0 n done f _ rs
    indexed x bracket role last i v (Err fault.NoKey) is =
        missing_key x (OfIndex i bracket) role last (walks.key_of v) here
    indexed x bracket role last i v (Err fault.WrongType) is = fails p0 n0 n done f _ rs
    indexed x bracket role last i v (Err e) is = by_indexer x bracket role i

    index_step : (i : Dynamic) (x bracket : Position) (role : Role) → Last role next →
        Keeps (walks.index_step g n i x bracket role next q done)
    index_step i x bracket role last =
        by p0 n0 (is_indexed here.value) rs
        (walks.flattening n x i done finds) (walks.by_indexer g n x bracket role i next q done)
        (reads p0 n0 n done f rs x i finds
        (λ v. indexed x bracket role last i v (locate here.value v) refl))
        (by_indexer x bracket role i) where
          finds : Dynamic → Task
          finds v = walks.indexed g n x bracket role i v here next q done (locate here.value v)

    by_accessor : (name getter setter : ℕ) (x : Position) (role : Role) →
        Keeps (walks.by_accessor g n name getter setter x role next q done)
    by_accessor name getter setter x (Writes v) =
        sets_property p0 n0 n done f g (n0 + q.root) name setter x true q v dynamic.Unit rs size
    by_accessor name getter setter x (Operates v a) =
        gets_property p0 n0 n done f (n0 + q.root)
        (walks.into_answer g n x false (OfProperty name setter x true) (walks.operating g n x a v) q
        done)
        (into_answer p0 n0 n done f g (walks.operating g n x a v)
        (λ r after follows now many there. operates p0 n0 n after follows g x a v r now)
        q (n0 + q.root) refl x false (OfProperty name setter x true)) g name getter x q rs size
    by_accessor name getter setter x Passes =
        gets_property p0 n0 n done f (n0 + q.root)
        (walks.into_answer g n x false (OfProperty name setter x false) next q done)
        (answered x false (OfProperty name setter x false)) g name getter x q rs size
    by_accessor name getter setter x Reads =
        gets_property p0 n0 n done f (n0 + q.root)
        (walks.into_answer g n x true (OfProperty name setter x false) next q done)
        (answered x true (OfProperty name setter x false)) g name getter x q rs size

    property_of : (name getter setter : ℕ) (x : Position) (role : Role) → Last role next →
        (d : Dynamic) → here.value ≡ d →
        Keeps (walks.property_of g n name getter setter x role here next q done d)
    property_of name getter setter x role last (dynamic.Map es) is =
        by_entry (entry_at (name_of g.program name) es) refl where
          by_entry : (o : Option Tree) → entry_at (name_of g.program name) es ≡ o →
              Keeps (walks.at_key g n x role (name_of g.program name) here next q done o)
          by_entry (Some t) e = (
            f (WalkFailed n NoMemory) rs,
            on (deeper q (path_step.Key (name_of g.program name))) done f rs size
                (found_deeper p0 n0 rs q (path_step.Key (name_of g.program name)) found
                (subst (HasChild (path_step.Key (name_of g.program name))) (sym is)
                (entry_child es (name_of g.program name) t e))),
          )
          by_entry None e = missing_key x OfNothing role last (name_of g.program name) here
    property_of name getter setter x role last d is = by_accessor name getter setter x role

    -- a method step
    module _ (x : Position) (args : List Dynamic) (last : Bool) where
      gives : (v : Dynamic) → Sized p0 n0 (n0 + q.root) (walks.gave g n x args last next q done v)
      gives v = answered x last OfMethod v

      heard : (a : Answer) →
          Sized p0 n0 (n0 + q.root) (walks.method_answered g n x args last next q done a)
      heard a = given p0 n0 n done f (n0 + q.root) (walks.gave g n x args last next q done) gives a

      first_called : (o : Option FnPtr) (v : Dynamic) (vs : List Dynamic) →
          Keeps (walks.first_called g n x args last next q done o v vs)
      first_called None v vs = fails p0 n0 n done f _ rs
      first_called (Some r) v vs =
          (f (WalkFailed n NoMemory) rs, (found, λ a now same. heard a now (same ∙ size)))

      called_on : (d : Dynamic) (vs : List Dynamic) →
          Keeps (walks.called_on g n x args last next q done d vs)
      called_on d [] = fails p0 n0 n done f _ rs
      called_on d (v ∷ vs) =
          reads p0 n0 n done f rs x v
          (λ u. walks.first_called g n x args last next q done (pointer_of u) u vs)
          (λ u. first_called (pointer_of u) u vs)

      call_step : (o : Option FnPtr) (d : Dynamic) →
          Keeps (walks.call_step g n x args last next q done o d)
      call_step None d = called_on d args
      call_step (Some r) d =
          (f (WalkFailed n NoMemory) rs, (tt, λ a now same. heard a now (same ∙ size)))

      curry_step : (o : Option FnPtr) (d : Dynamic) →
          Keeps (walks.curry_step g n x args last next q done o d)
      curry_step None d = fails p0 n0 n done f _ rs
      curry_step (Some r) d = gives (dynamic.Pointer (walks.with_values r args)) rs size

      by_method : (o : Option ℕ) (text : List ℕ) →
          Keeps (walks.by_method g n x args last next q done o text)
      by_method None text =
          asks p0 n0 n done f (n0 + q.root) x text (Some q) args
          (walks.method_answered g n x args last next q done) heard rs size
      by_method (Some i) text =
          (f (WalkFailed n NoMemory) rs, (found, λ a now same. heard a now (same ∙ size)))

      by_own : (o : Option FnPtr) (name argc : ℕ) (d : Dynamic) →
          Keeps (walks.by_own g n x args last next q done o name argc d)
      by_own None name argc d =
          by_method (method_of g.program name argc (type_name_of d)) (name_of g.program name)
      by_own (Some r) name argc d =
          (f (WalkFailed n NoMemory) rs, (found, λ a now same. heard a now (same ∙ size)))

      method_step : (name argc : ℕ) → Keeps (walks.method_step g n x args last next q done name argc)
      method_step name argc =
          let text : List ℕ = name_of g.program name in
          by p0 n0 (walks.asks_shared text argc) rs _ _
          (gives (dynamic.Bool (is_some (cell_of here.value))) rs size)
          (by p0 n0 (bytes_eq text (codes "call")) rs _ _ (call_step (pointer_of here.value) here.value)
          (by p0 n0 (bytes_eq text (codes "curry")) rs _ _
          (curry_step (pointer_of here.value) here.value)
          (by_own (walks.own_pointer text here.value) name argc here.value)))

    -- a chain may end before a step, at unit
    unless : (x : Position) (b : Bool) (go : Task) → Keeps go →
        Keeps (walks.unless_unit n x b q done go)
    unless x false go h = h
    unless x true go h =
        reads p0 n0 n done f rs x here.value (walks.if_not_unit done go)
        (λ v. by p0 n0 (is_unit v) rs (done (WalkEnded dynamic.Unit false)) go
        (f (WalkEnded dynamic.Unit false) rs) h)

  module _ (c : Course) where
    takes : (n : ℕ) (s : Step) (role : Role) (next : Next) → Last role next → Goes p0 n0 next →
        Goes p0 n0 (walks.taken c s n role next)
    takes n (step.Index i flags x bracket) role next last on q done f rs size found =
        index_step n c.setting next on q done f rs size found (walks.operand c i) x bracket role last
    takes n (step.Property name getter setter flags x) role next last on q done f rs size found =
        property_of n c.setting next on q done f rs size found name getter setter x role last
        (look rs (placed p0 n0 q)).value refl
    takes n (step.Method name argc i flags x) role next last on q done f rs size found =
        method_step n c.setting next on q done f rs size found x (walks.operands_from c i argc)
        (walks.reads role) name argc

    ends : (n : ℕ) (v : Option Dynamic) (op : Option AssignOp) →
        GoesAnywhere p0 n0 (walks.ended c.setting (role_at_end v op) n)
    ends n None op q done f rs =
        (f (WalkFailed n NoMemory) rs, f (WalkEnded (look rs (placed p0 n0 q)).value false) rs)
    ends n (Some v) None q done f rs =
        (f (WalkFailed n NoMemory) rs, f (WalkEnded dynamic.Unit true) (put rs (placed p0 n0 q) v))
    ends n (Some v) (Some a) q done f rs =
        operates p0 n0 n done f c.setting c.setting.position a v q rs

    lasts : (steps : List Step) (n : ℕ) → Last (walks.role_before c steps) (walks.walked c steps n)
    lasts [] n is = ends (n - 1) c.assigns c.operator
    lasts (s ∷ steps) n is = absurd cc

    walks_bound : (steps : List Step) (n : ℕ) → Goes p0 n0 (walks.walked c steps n)
    walks_bound [] n q done f rs size found = ends (n - 1) c.assigns c.operator q done f rs
    walks_bound (s ∷ steps) n q done f rs size found = (
      f (WalkFailed n NoMemory) rs,
      unless n c.setting (walks.walked c steps (n + 1)) (walks_bound steps (n + 1)) q done f rs size
          found (walks.step_position s) (skips s)
          (walks.taken c s n (walks.role_before c steps) (walks.walked c steps (n + 1)) q done)
          (takes n s (walks.role_before c steps) (walks.walked c steps (n + 1)) (lasts steps (n + 1))
          (walks_bound steps (n + 1)) q done f rs size found),
    )

    -- the whole walk, from a place that is there
    pub binds : (steps : List Step) (rs : List Held) → length rs ≡ n0 →
        Found rs p0 → Binds p0 n0 rs (walks.whole_walk c steps)
    binds steps rs size found =
        walks_bound steps 0 (record { root = 0; path = [] }) Done (λ o now. tt) rs
        (omega (arith, size))
        (subst (λ (l : List PathStep). Found rs (record p0 { path = l })) (sym (append-nil p0.path))
        found)
