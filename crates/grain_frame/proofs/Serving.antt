-- A native is sought, and the host is called.
use Rattle.std.proofs.Common.{◌≡◌, ◌∙◌, ◌≤◌, ◌+◌, ◌-◌, ℕ, Bool, List, [], ◌∷◌, Option, None, Some, true, false, inl, inr, Result, Ok, Err, length, map, refl, ap, subst, arith}
use Rattle.std.specs.Prelude.{◌&&◌, if◌then◌else◌}
use Rattle.grain_value.specs.Tree.{Tree}
use Rattle.grain_value.specs.declared.values.Dynamic.{Dynamic}
use Rattle.grain_value.specs.declared.values.Held.{Held}
use Rattle.grain_value.specs.declared.scopes.Entry.{Entry}
use Rattle.grain_value.specs.declared.stores.Cell.{Cell}
use Rattle.grain_value.specs.declared.memory.OutOfMemory.{OutOfMemory}
use Rattle.grain_value.specs.Operands.{values_in}
use Rattle.grain_fault.specs.declared.places.Position.{Position}
use Rattle.grain_fault.specs.declared.faults.EvalAltResult.{EvalAltResult}
use Rattle.grain_fault.specs.Problems.{Problem, problem_of}
use Rattle.grain_program.specs.View.{View}
use Rattle.grain_stack.specs.Views.{StacksView}
use Rattle.grain_value.specs.declared.natives.Native.{Native}
use Rattle.grain_host.specs.Law.{Law, Reply, native_of}
use Rattle.grain_host.specs.Answers.{Replies}
use Rattle.grain_host.specs.declared.host_answers.Args.{Args}
use Rattle.grain_global.specs.declared.engines.Engine.{Engine}
use Rattle.grain_stack.specs.declared.handlers.Handler.{Handler}
use Rattle.grain_means.specs.Worlds.{Act, Frame, Place, Setup, World}
use Rattle.grain_means.specs.Rules.{Home, native, kinds_in, trees_in, raised}
use Rattle.grain_host.specs.Signatures.{not_found}
use Rattle.grain_value.specs.View.{value_of}
use Rattle.grain_value.specs.laws.Same.{value_of-tree}
use Rattle.grain_frame.specs.declared.native_calls.Arguments.{Arguments}
use Rattle.grain_means.specs.Simulation.{Computation, SimulatesExactly}
use Rattle.grain_means.specs.Means.{setup}
use Rattle.grain_means.specs.lemmas.Stretches.{then_exactly}
use Rattle.grain_global.specs.StepsView.{StepsView}
use Rattle.grain_frame.specs.Abstraction.{abstraction, frame_in, is_out, continuation, native_continuation, KeepsFrame, ContinuesAt, Progresses, Implements, moment}
use Rattle.grain_frame.specs.Natives.{Describes, EndsBy, IsAt, Seeks, Serves, callable, callable_key}
use Rattle.grain_frame.specs.declared.activations.Activation.{Activation}
use Rattle.grain_frame.specs.declared.native_calls.NativeEnd.{NativeEnd}
use Rattle.grain_frame.specs.declared.native_calls.NativeEnd.TheVariants as native_end
use Rattle.grain_frame.specs.declared.native_calls.Sought.TheVariants as sought
use Rattle.grain_frame.specs.declared.runs.Progress.{Progress}
use Rattle.grain_frame.specs.declared.runs.Progress.TheVariants as progress
use Rattle.grain_frame.specs.declared.runs.Run.{Run}
use Rattle.grain_frame.proofs.Newest.{keeps_both}

-- the trees of what is held are its values
values_are : (hs : List Held) → map value_of (trees_in hs) ≡ values_in hs
values_are [] = refl
values_are (h ∷ hs) = rw (value_of-tree h.value, values_are hs) refl

-- no native takes these arguments
pub seeks_none : {H : Type 0} (law : Law H) (host : H) (name word : List ℕ) (args : List Held)
    (a : Arguments) (q : Position) (x : EvalAltResult) → Describes a args →
    native_of law host word a.kinds ≡ None → word ≡ name →
    problem_of x ≡ not_found name (map value_of a.values) q →
    Seeks law host name None args q (sought.Fault x)
seeks_none law host name word args a q x describes none same is = inl (
  subst (λ (w : List ℕ). native_of law host w (kinds_in args) ≡ None) same
      (subst (λ (ks : List ℕ). native_of law host word ks ≡ None) describes.kinds none),
  is ∙ ap (λ (vs : List Dynamic). not_found name vs q)
      (ap (λ (ts : List Tree). map value_of ts) describes.values ∙ values_are args),
)

-- no native takes what is lent and this argument
pub lent_none : {H : Type 0} (law : Law H) (host : H) (name word : List ℕ) (home : Home)
    (h v : Held) (kinds : List ℕ) (values : List Tree) (q : Position) (x : EvalAltResult) →
    kinds ≡ kinds_in (h ∷ v ∷ []) → values ≡ trees_in (h ∷ v ∷ []) →
    native_of law host word kinds ≡ None → word ≡ name →
    problem_of x ≡ not_found name (map value_of values) q →
    Seeks law host name (Some (record { home = home; held = h })) (v ∷ []) q
    (sought.Fault x)
lent_none law host name word home h v kinds values q x kinds_are trees_are none same is = inl (
  subst (λ (w : List ℕ). native_of law host w (kinds_in (h ∷ v ∷ [])) ≡ None) same
      (subst (λ (ks : List ℕ). native_of law host word ks ≡ None) kinds_are none),
  is ∙ ap (λ (vs : List Dynamic). not_found name vs q)
      (ap (λ (ts : List Tree). map value_of ts) trees_are ∙ values_are (h ∷ v ∷ [])),
)

module _ {H : Type 0} (law : Law H) (s : Run H) (n : StepsView) (host : H) (q : Position)
    (m : Setup H) (name : List ℕ) (args : List Held) (f : Option Place → Frame)
    (go : Setup H → Option Place → Dynamic → World H → Act H)
    (fails : Setup H → Option Place → Problem → World H → Act H) (own : m.law ≡ law)
    (at : IsAt m f q) where
  -- what the code says of a native that it was to call, which is lent nothing
  abbrev pub Calls : Result NativeEnd OutOfMemory → Run H → StepsView → H → Type 0
  Calls r s' n' host' = SimulatesExactly m (abstraction s n host)
      (λ m place w. native m name None args (f place) w (go m place) (fails m place))
      (is_out r) (abstraction s' n' host') (native_continuation r (λ place. None) f go fails)

  -- there is none, or it may not be called
  pub refuses : (x : EvalAltResult) → Seeks law host name None args q (sought.Fault x) →
      Calls (Ok (native_end.Fault x)) s n host
  refuses x (inl none) = record {
    this = refl;
    order = omega arith;
    equal = λ stop clear halts u place. rw (own, none.0, none.1, at place) refl;
  }
  refuses x (inr one) = record {
    this = refl;
    order = omega arith;
    equal = λ stop clear halts u place. rw (own, one.1, one.2, one.3, at place) refl;
  }

  -- it is called
  pub serves : (key : ℕ) (values : List Tree) (r : Result NativeEnd OutOfMemory) (s' : Run H)
      (n' : StepsView) (host' : H) → Seeks law host name None args q (sought.Native key values) →
      Serves law s n host key None values q r s' n' host' → Calls r s' n' host'
  serves key values r s' n' host' seeks did =
      called r (subst (λ (ts : List Tree). Serves law s n host seeks.0.key None ts q r s' n' host')
      seeks.4
      (subst (λ (k : ℕ). Serves law s n host k None values q r s' n' host') seeks.3 did)) where
        called : (r : Result NativeEnd OutOfMemory) →
            Serves law s n host seeks.0.key None (trees_in args) q r s' n' host' →
            Calls r s' n' host'
        called (Ok (native_end.Value v)) did = rw (did.2, did.3, did.1) (record {
          this = refl;
          order = omega arith;
          equal = λ stop clear halts u place. rw (
            own,
            seeks.1,
            seeks.2,
            clear n.passed (omega arith) (omega arith),
            clear (n.passed + 1) (omega arith) (omega arith),
            ← did.0,
          ) refl;
        })
        called (Ok (native_end.Fault x)) did = rw (did.4, did.5, did.2) (record {
          this = refl;
          order = omega arith;
          equal = λ stop clear halts u place. rw (
            own,
            seeks.1,
            seeks.2,
            clear n.passed (omega arith) (omega arith),
            clear (n.passed + 1) (omega arith) (omega arith),
            ← did.1,
            did.3,
            at place,
          ) refl;
        })
        called (Ok (native_end.Asks a)) did = rw (did.1, did.3, did.2) (record {
          this = refl;
          order = omega arith;
          equal = λ stop clear halts u place. rw (
            own,
            seeks.1,
            seeks.2,
            clear n.passed (omega arith) (omega arith),
            clear (n.passed + 1) (omega arith) (omega arith),
            ← did.0,
          ) refl;
        })
        called (Err e) did = rw (did.0, did.1, did.2) (record {
          this = refl;
          order = omega arith;
          equal = λ stop clear halts u place. rw (own, seeks.1, seeks.2, halts) refl;
        })

-- the key that may be called is that of a native which does not write, or whose first argument can be
-- written
found_one : (o : Option Native) (read_only : Bool) (key : ℕ) → callable_key read_only o ≡ Some key →
    (n : Native) × (o ≡ Some n) × ((n.writes && read_only) ≡ false) × (key ≡ n.key)
found_one None read_only key is = absurd cc
found_one (Some n) read_only key is =
    let both = decided (n.writes && read_only) is in (n, refl, both.0, both.1) where
      decided : (b : Bool) → (if b then None else Some n.key) ≡ Some key →
          (b ≡ false) × (key ≡ n.key)
      decided true none = absurd cc
      decided false same = (refl, cc)

-- a key that may be called is that of a native which the host has for these arguments
pub may_be_called : {H : Type 0} (law : Law H) (host : H) (name : List ℕ) (args : List Held)
    (a : Arguments) (q : Position) (key : ℕ) → Describes a args →
    callable law host name a.kinds a.read_only ≡ Some key →
    Seeks law host name None args q (sought.Native key a.values)
may_be_called law host name args a q key describes is =
    let one = found_one (native_of law host name a.kinds) a.read_only key is in (
      one.0,
      subst (λ (ks : List ℕ). native_of law host name ks ≡ Some one.0) describes.kinds one.1,
      subst (λ (b : Bool). (one.0.writes && b) ≡ false) describes.read_only one.2,
      one.3,
      describes.values,
    )

-- where no key may be called, none is found
pub may_not_be_called : {H : Type 0} (law : Law H) (host : H) (name : List ℕ) (args : List Held)
    (a : Arguments) (q : Position) (key : ℕ) (values : List Tree) → Describes a args →
    callable law host name a.kinds a.read_only ≡ None →
    Seeks law host name None args q (sought.Native key values) → ⊥
may_not_be_called law host name args a q key values describes none seeks =
    is_none (rw (describes.kinds, describes.read_only, seeks.1, seeks.2) at none) where
      is_none : Some seeks.0.key ≡ None → ⊥
      is_none none = absurd cc

-- what a native that was lent nothing came to, by the host's answer
pub serves_by : {H : Type 0} (law : Law H) (s : Run H) (n n' : StepsView) (asked host : H) (key : ℕ)
    (values : List Tree) (q : Position) (said : Option Reply) (left : Args)
    (r : Result NativeEnd OutOfMemory) → EndsBy said q r n n' →
    Replies law asked key (record { receiver = None; values = values }) said host left →
    Serves law s n asked key None values q r s n' host
serves_by law s n n' asked host key values q said left (Ok (native_end.Value v)) ends replies =
    let did = rw ends.0 at replies in (did.0, did.1, refl, ends.1)
serves_by law s n n' asked host key values q said left (Ok (native_end.Fault x)) ends replies =
    let did = rw ends.1 at replies in (ends.0, did.0, did.1, ends.2, refl, ends.3)
serves_by law s n n' asked host key values q said left (Ok (native_end.Asks a)) ends replies =
    let did = rw ends.0 at replies in (did.0, did.1, refl, ends.1)
serves_by law s n n' asked host key values q said left (Err e) ends replies =
    let did = rw ends.0 at replies in (did.0, refl, ends.1)

-- one stretch after another that keep the frame
pub kept_on : {H : Type 0} (f g h : Activation) (s t u : Run H) → KeepsFrame f s g t →
    KeepsFrame g t h u → KeepsFrame f s h u
kept_on f g h s t u one two = record {
  chunk = two.chunk ∙ one.chunk;
  base = two.base ∙ one.base;
  scope = omega (arith, two.scope, one.base);
  room = two.room ∙ one.room;
  noted = two.noted ∙ one.noted;
  outer = two.outer ∙ one.outer;
  saved = two.saved ∙ one.saved;
  level = two.level ∙ one.level;
  this = keeps_both s.level s.receivers t.receivers u.receivers one.this
      (rw one.level at two.this);
  later = omega (arith, one.later, two.later);
}

-- the same stacks are the same but for a trace
pub same_but_trace : (v q : StacksView) → q ≡ v → q ≡ record v { trace = q.trace }
same_but_trace v q same = rw same refl

pub later_lands : {H : Type 0} (engine : Engine) (f f' : Activation) (s t s' : Run H) (ts : List ℕ)
    (takes gives : ℕ) (hs : List Handler) (r : Result Progress OutOfMemory) → s.count ≤ t.count →
    t.stacks ≡ record s.stacks { trace = t.stacks.trace } →
    ContinuesAt engine t f s' f' ts takes gives hs r →
    ContinuesAt engine s f s' f' ts takes gives hs r
later_lands engine f f' s t s' ts takes gives hs (Ok progress.Continues) le es l = (
  l.0,
  l.1 ∙ ap (λ (q : StacksView). length q.operands - takes + gives) es,
  l.2,
  at l.3,
  l.4 ∙ ap (λ (q : StacksView). q.cursors) es,
) where
  at : Progresses engine t f s' f' → Progresses engine s f s' f'
  at (inl a) = inl (omega (arith, a.0, le), omega (arith, a.1, le))
  at (inr a) = inr (omega (arith, a.0, le), a.1)
later_lands engine f f' s t s' ts takes gives hs (Ok progress.Returned) le es l = tt
later_lands engine f f' s t s' ts takes gives hs (Ok progress.Failed) le es l = (
  omega (arith, l.0, ap (λ (q : StacksView). length q.operands) es),
  l.1 ∙ ap (λ (q : StacksView). q.handlers) es,
  l.2 ∙ ap (λ (q : StacksView). q.cursors) es,
)
later_lands engine f f' s t s' ts takes gives hs (Err e) le es l = tt

module _ {H : Type 0} (law : Law H) (p : View) (engine : Engine) (f : Activation) (s t : Run H)
    (n k : StepsView) (host mid : H) where
  -- a rule that begins with a stretch at which the frame stays
  pub implements_then : (f' : Activation) (s' : Run H) (n' : StepsView) (host' : H)
      {rule via : Computation H} {ts : List ℕ} {takes gives : ℕ} {hs : List Handler}
      {r : Result Progress OutOfMemory} →
      SimulatesExactly (setup law p engine) (abstraction s n host) rule false
      (abstraction t k mid) via → KeepsFrame f s f t → t.stacks ≡ s.stacks →
      k.before ≡ n.before →
      Implements (setup law p engine) (moment f t k mid) via ts takes gives hs r
      (moment f' s' n' host') →
      Implements (setup law p engine) (moment f s n host) rule ts takes gives hs r
      (moment f' s' n' host')
  implements_then f' s' n' host' {rule} {via} {ts} {takes} {gives} {hs} {r} first kept stacks before
      does = record {
        same = then_exactly first does.same;
        kept = kept_on f f f' s t s' kept does.kept;
        lands = later_lands engine f f' s t s' ts takes gives hs r kept.later
            (same_but_trace s.stacks t.stacks stacks) does.lands;
        before = does.before ∙ before;
      }

  -- the frame stays where only the cells and the scope differ, which is as long
  pub scope_kept : (scope : List Entry) (cells : List Cell) →
      t ≡ record s { scope = scope; cells = cells } →
      length scope ≡ length s.scope → f.base ≤ length s.scope → KeepsFrame f s f t
  scope_kept scope cells et long inside = rw et (record {
    chunk = refl;
    base = refl;
    scope = omega (arith, long, inside);
    room = refl;
    noted = refl;
    outer = refl;
    saved = refl;
    level = refl;
    this = (refl, refl);
    later = omega arith;
  })

  module _ {rule : Computation H} {ts : List ℕ} {takes gives : ℕ} {hs : List Handler}
      (go : Setup H → Option Place → Dynamic → World H → Act H)
      (fails : Setup H → Option Place → Problem → World H → Act H) (scope : List Entry)
      (cells : List Cell) (run : t ≡ record s { scope = scope; cells = cells }) (long : length scope
      ≡ length s.scope)
      (before : k.before ≡ n.before) (inside : f.base ≤ length s.scope) where
    -- memory is out
    pub native_wants : (e : OutOfMemory) (r : Result Progress OutOfMemory) → is_out r ≡ true →
        SimulatesExactly (setup law p engine) (abstraction s n host) rule true
        (abstraction t k mid)
        (native_continuation (Err e) (λ place. None) (frame_in f s) go fails) →
        Implements (setup law p engine) (moment f s n host) rule ts takes gives hs r
        (moment f t k mid)
    native_wants e (Ok y) er does = absurd cc
    native_wants e (Err y) er does = record {
      same = rw run (record {
        this = (rw run at does).this;
        order = (rw run at does).order;
        equal = λ stop clear halts u place. (rw run at does).equal stop clear halts u place;
      });
      kept = scope_kept scope cells run long inside;
      lands = tt;
      before = before;
    }

    -- its fault is raised
    pub native_raised : (x : EvalAltResult) (s' : Run H) (n' : StepsView) →
        SimulatesExactly (setup law p engine) (abstraction s n host) rule false
        (abstraction t k mid) (λ m place w. raised m (frame_in f s place) (problem_of x) w) →
        s' ≡ record t { fault = x } → n' ≡ record k { passed = k.passed + 1 } →
        Implements (setup law p engine) (moment f s n host) rule ts takes gives hs (Ok
        progress.Failed) (moment f s' n' mid)
    native_raised x s' n' does es en = record {
      same = then_exactly does second;
      kept = kept_on f f f s t s' (scope_kept scope cells run long inside) (rw (es, run) (record {
        chunk = refl;
        base = refl;
        scope = omega (arith, long, inside);
        room = refl;
        noted = refl;
        outer = refl;
        saved = refl;
        level = refl;
        this = (refl, refl);
        later = omega arith;
      }));
      lands = rw (es, run) (omega arith, refl, refl);
      before = rw en before;
    } where
      second : SimulatesExactly (setup law p engine) (abstraction t k mid)
          (λ m place w. raised m (frame_in f s place) (problem_of x) w) false
          (abstraction s' n' mid) (continuation (Ok progress.Failed) s'.fault (frame_in f s'))
      second = rw (es, en, run) (record {
        this = refl;
        order = omega arith;
        equal = λ stop clear halts u place. rw (clear k.passed (omega arith) (omega arith)) refl;
      })
