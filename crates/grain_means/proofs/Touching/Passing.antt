-- Roots through a run: marks, faults, charges, calls of functions and of natives, in whatever follows.
use Rattle.std.proofs.Common.{◌≡◌, ◌+◌, ℕ, List, Bool, true, false, Option, Some, None, if◌then◌else◌, ◌&&◌, nat_lt, nat_le, length, refl}
use Rattle.grain_value.specs.Tree.{Tree}
use Rattle.grain_value.specs.Operands.{values_in}
use Rattle.grain_value.specs.declared.natives.Native.{Native}
use Rattle.grain_value.specs.declared.values.Dynamic.{Dynamic}
use Rattle.grain_value.specs.declared.values.Held.{Held}
use Rattle.grain_fault.specs.Classes.{catchable}
use Rattle.grain_fault.specs.Positions.{at_position, at_position_if_none}
use Rattle.grain_fault.specs.Problems.{Problem, Plain, InFunctionCall, NonPureCall, StackOverflow, Terminated, TooManyOperations, TooManyVariables}
use Rattle.grain_fault.specs.declared.places.Position.{Position}
use Rattle.grain_host.specs.Law.{GoOn, Law, Reply, Stop, Verdict, native_of, written}
use Rattle.grain_host.specs.Law as reply
use Rattle.grain_host.specs.Signatures.{not_found}
use Rattle.grain_program.specs.View.{name_of, source_text}
use Rattle.grain_program.specs.declared.code.functions.Function.{Function}
use Rattle.grain_means.specs.Places.{put}
use Rattle.grain_means.specs.Rules as rules
use Rattle.grain_means.specs.Rules.{Home, InScope, InCell, AtPlace, Receiver, back_in_roots, bound, cells_given_back, first_is_read_only, frame_at, given, given_back, is_stop, lent_held, no_memory, receiver_left, roots_given_back, trees_in}
use Rattle.grain_means.specs.Worlds.{Act, Go, End, Then, Answer, Came, Failed, Frame, InCatch, InFrame, InHost, Place, Setup, Todo, World}
use Rattle.grain_means.specs.lemmas.PlaceLaws.{length-put}
use Rattle.grain_means.proofs.Footing.{by_test}
use Rattle.grain_means.proofs.Touching.Writes.{Bound, MayThis, Stands, may_own, same, set, stands_same}

-- the place where what is lent stands, if it stands at one
abbrev pub place_of : Home → Option Place
place_of (InScope i) = None
place_of (InCell i) = None
place_of (AtPlace p) = Some p

abbrev pub lent_place : Option Receiver → Option Place
lent_place None = None
lent_place (Some r) = place_of r.home

-- What a run stands at, by whether it is one of calls that a native asked for: it is a frame with this
-- `this`; or a call that was asked for, where what the native was lent stands in this place.
abbrev pub Sits : Bool → Option Place → ℕ → Todo → Type 0
Sits false t size (InFrame f) = f.this ≡ t
Sits false t size (InCatch f h x) = f.this ≡ t
Sits false t size (InHost c) = ⊥
Sits true t size (InFrame f) = ⊥
Sits true t size (InCatch f h x) = ⊥
Sits true t size (InHost c) = MayThis t size (lent_place c.receiver)

-- what is known where a run begins: that something stands at the `this` of its frame, if it is one of a frame
abbrev pub Given : Bool → Option Place → List Held → Type 0
Given false t old = Bound t old
Given true t old = Unit {0}

-- What is left of a run, of a frame with this `this`, or of calls that a native asked for which was lent
-- this place; the run began at these roots. A run inside another begins at roots of its own, at which
-- something stands at its `this` if it did so at that of the frame.
abbrev pub Leaves : {S : Type 0} → Bool → Option Place → List Held → Act S → Type 0
Leaves b t old (Go u w) = Stands t old w.roots × Sits b t (length old) u
Leaves b t old (End a w) = Stands t old w.roots
Leaves {S = S} b t old (Then first rest) =
    (c : Bool) × (u : Option Place) × (from : List Held) × (Given b t old → Given c u from)
    × Leaves c u from first
    × ((a : Answer) (w : World S) → Stands u from w.roots → Leaves b t old (rest a w))

-- what is so of the roots stays so where a native that is lent this writes it
abbrev pub LendsBack : (List Held → Type 0) → Option Receiver → Type 0
LendsBack In r = (from now : List Held) → In from → Stands (lent_place r) from now → In now

pub put_there : (p : Place) (roots : List Held) (v : Dynamic) → Stands (Some p) roots (put roots p v)
put_there p roots v =
    (set p v (may_own (Some p) (length roots) p refl) same, length-put roots p v)

home_back : (In : List Held → Type 0) (a : Home) →
    ((from now : List Held) → In from → Stands (place_of a) from now → In now) → (h : Held)
    (roots : List Held) → In roots → In (back_in_roots a h roots)
home_back In (InScope i) back h roots at = at
home_back In (InCell i) back h roots at = at
home_back In (AtPlace p) back h roots at =
    back roots (put roots p h.value) at (put_there p roots h.value)

left_back : {S : Type 0} (In : List Held → Type 0) (law : Law S) (s : S) (key : ℕ)
    (values : List Tree) (r : Option Receiver) → LendsBack In r →
    LendsBack In (receiver_left law s key values r)
left_back In law s key values None back = back
left_back In law s key values (Some r) back = back

-- what is lent may be written
pub may_lent : (r : Option Receiver) (size : ℕ) → MayThis (lent_place r) size (lent_place r)
may_lent None size = tt
may_lent (Some r) size = at r.home where
  at : (a : Home) → MayThis (place_of a) size (place_of a)
  at (InScope i) = tt
  at (InCell i) = tt
  at (AtPlace p) = may_own (Some p) size p refl

-- an answer that is not heard changes no root
pub unheard_stands : {S : Type 0} (In : List Held → Type 0) (law : Law S) (r : Reply) (w : World S) →
    In w.roots → In (rules.unheard law r w).roots
unheard_stands In law (reply.Done v) w at = at
unheard_stands In law (reply.Failed x) w at = at
unheard_stands In law (reply.Ask token p values) w at = at

-- what follows leaves these roots so; `In` says what is so of the roots meanwhile
module _ {S : Type 0} (m : Setup S) (hosting : Bool) (t : Option Place) (old : List Held)
    (In : List Held → Type 0) (out : World S → Act S)
    (outs : (w : World S) → In w.roots → Leaves hosting t old (out w)) where
  abbrev pub Reaches : Act S → Type 0
  Reaches act = Leaves hosting t old act

  pub marks_or : (w : World S) (go : World S → Act S) → In w.roots →
      Reaches (go (record w { passed = w.passed + 1 })) → Reaches (rules.marked_or m out w go)
  marks_or w go at h =
      by_test Reaches (is_stop m.stop w.passed) (out w) (go (record w { passed = w.passed + 1 }))
      (λ stop. outs w at) (λ clear. h)

  module _ (fails : Problem → World S → Act S)
      (failing : (x : Problem) (w : World S) → In w.roots → Reaches (fails x w)) where
    pub fails_or : (x : Problem) (w : World S) → In w.roots →
        Reaches (rules.marked_or m out w (fails x))
    fails_or x w at = marks_or w (fails x) at (failing x (record w { passed = w.passed + 1 }) at)

    -- an operation is taken, of which the host hears
    module _ (p : Position) (go : World S → Act S)
        (going : (w : World S) → In w.roots → Reaches (go w)) where
      judges : (v : Verdict) (w : World S) → In w.roots →
          Reaches (rules.on_verdict_or m out v p fails w go)
      judges GoOn w at = going w at
      judges (Stop v) w at = fails_or (Plain (Terminated v) p) w at

      hears : (w : World S) → In w.roots → Reaches (rules.progressed_or m out p fails w go)
      hears w at =
          marks_or w (λ w1. rules.marked_or m out
          (record w1 { host = m.law.progress_after w1.host w1.count }) (λ w2.
          rules.on_verdict_or m out (m.law.progress_reply w1.host w1.count) p fails w2 go)) at
          (marks_or (record w {
            passed = w.passed + 1;
            host = m.law.progress_after w.host w.count;
          }) (λ w2. rules.on_verdict_or m out (m.law.progress_reply w.host w.count) p fails w2 go) at
          (judges (m.law.progress_reply w.host w.count) (record w {
            passed = w.passed + 1 + 1;
            host = m.law.progress_after w.host w.count;
          }) at))

      pub takes_operation : (w : World S) → In w.roots →
          Reaches (rules.operation_taken m out p fails w go)
      takes_operation w at =
          by_test Reaches (nat_lt w.count m.engine.limits.operations)
          (rules.marked_or m out w
          (λ w1. rules.progressed_or m out p fails (record w1 { count = w1.count + 1 }) go))
          (rules.marked_or m out w (fails (Plain TooManyOperations p)))
          (λ few. marks_or w
          (λ w1. rules.progressed_or m out p fails (record w1 { count = w1.count + 1 }) go) at
          (hears (record w { passed = w.passed + 1; count = w.count + 1 }) at))
          (λ many. fails_or (Plain TooManyOperations p) w at)

    -- a fault that left the body of a function
    module _ (q : Position) where
      pub body_fails : (g : Function) (x : Problem) (w : World S) → In w.roots →
          Reaches (rules.body_failed m out fails q g x w)
      body_fails g x w at =
          let wrapped : Problem =
          InFunctionCall (name_of m.program g.name) (source_text m.program) x q in
          by_test Reaches (catchable x) (rules.marked_or m out w (fails wrapped))
          (fails (at_position q x) w)
          (λ may. fails_or wrapped w at) (λ not. failing (at_position q x) w at)

      -- a function is called on these arguments
      module _ (g : Function) (args : List Held) (this : Option Place)
          (binds : (from : List Held) → In from → Given hosting t old → Bound this from)
          (over : Answer → World S → Act S)
          (overs : (from : List Held) → In from → (a : Answer) (w : World S) →
          Stands this from w.roots → Reaches (over a w)) where
        abbrev body : World S → World S → Act S
        body w w1 =
            Then (Go (InFrame (frame_at g.chunk 0 this)) (record w1 {
              scope = bound m.program g.params args;
              level = w1.level + 1;
            })) (λ a w2. over a (record w2 { scope = w.scope; level = w.level }))

        pub body_enters : (w : World S) → In w.roots →
            Reaches (rules.body_entered m out fails q g args this over w)
        body_enters w at =
            by_test Reaches (nat_le m.engine.limits.levels w.level)
            (rules.marked_or m out w (fails (Plain StackOverflow q)))
            (if nat_lt m.engine.limits.variables (length g.params)
            then rules.marked_or m out w (fails (Plain TooManyVariables q))
            else rules.marked_or m out w (body w))
            (λ deep. fails_or (Plain StackOverflow q) w at)
            (λ room. by_test Reaches (nat_lt m.engine.limits.variables (length g.params))
            (rules.marked_or m out w (fails (Plain TooManyVariables q)))
            (rules.marked_or m out w (body w))
            (λ many. fails_or (Plain TooManyVariables q) w at)
            (λ few. marks_or w (body w) at (
              false,
              this,
              w.roots,
              binds w.roots at,
              (stands_same this w.roots, refl),
              λ a v there. overs w.roots at a (record v { scope = w.scope; level = w.level }) there,
            )))

        pub body_calls : (w : World S) → In w.roots →
            Reaches (rules.body_called m out fails q g args this over w)
        body_calls w at =
            takes_operation q (rules.body_entered m out fails q g args this over) body_enters w at

  -- a native that is asked for
  module _ (f : Frame) (go : Dynamic → World S → Act S) (fails : Problem → World S → Act S)
      (going : (v : Dynamic) (w : World S) → In w.roots → Reaches (go v w))
      (failing : (x : Problem) (w : World S) → In w.roots → Reaches (fails x w)) where
    is_over : (a : Answer) (w : World S) → In w.roots → Reaches (rules.native_over out go fails a w)
    is_over (Came v) w at = going v w at
    is_over (Failed x) w at =
        by_test Reaches (no_memory x) (out w) (fails x w) (λ none. outs w at) (λ some. failing x w at)

    answered : (r : Option Receiver) → LendsBack In r → (a : Reply) (w : World S) → In w.roots →
        Reaches (rules.answered m out r a f w go fails)
    answered r backs (reply.Done v) w at = going v w at
    answered r backs (reply.Failed x) w at =
        failing (at_position_if_none (rules.position m f) x) w at
    answered r backs (reply.Ask token p values) w at = (
      true,
      lent_place r,
      w.roots,
      (λ given. tt),
      (stands_same (lent_place r) w.roots, may_lent r (length w.roots)),
      λ a v there. is_over a v (backs w.roots v.roots at there),
    )

    module _ (r : Option Receiver) (backs : LendsBack In r) where
      abbrev after : ℕ → List Held → World S → World S
      after key args w = record w {
        host = m.law.call_after w.host key (lent_held r) (trees_in args);
        scope = given_back m.law w.host key (trees_in args) r w.scope;
        cells = cells_given_back m.law w.host key (trees_in args) r w.cells;
        roots = roots_given_back m.law w.host key (trees_in args) r w.roots;
      }

      given_roots : (key : ℕ) (args : List Held) (w : World S) (o : Option Receiver) →
          LendsBack In o → In w.roots →
          In (roots_given_back m.law w.host key (trees_in args) o w.roots)
      given_roots key args w None back at = at
      given_roots key args w (Some q) back at =
          home_back In q.home back (written m.law w.host key (trees_in args) q.held) w.roots at

      calls : (key : ℕ) (args : List Held) (w : World S) → In w.roots →
          Reaches (rules.host_called_or m out key r args f w go fails)
      calls key args w at =
          let values = trees_in args in
          let w2 : World S = after key args (record w { passed = w.passed + 1 }) in
          let there : In w2.roots = given_roots key args w r backs at in
          let a : Reply = m.law.call_reply w.host key (lent_held r) values in
          let left : Option Receiver = receiver_left m.law w.host key values r in
          marks_or w (λ v1. rules.marked_or m
          (λ v2. out (rules.unheard m.law (m.law.call_reply v1.host key (lent_held r) values) v2))
          (after key args v1) (λ v2. rules.answered m out (receiver_left m.law v1.host key values r)
          (m.law.call_reply v1.host key (lent_held r) values) f v2 go fails)) at
          (by_test Reaches (is_stop m.stop w2.passed) (out (rules.unheard m.law a w2))
          (rules.answered m out left a f (record w2 { passed = w2.passed + 1 }) go fails)
          (λ stop. outs (rules.unheard m.law a w2) (unheard_stands In m.law a w2 there))
          (λ clear. answered left (left_back In m.law w.host key values r backs) a
          (record w2 { passed = w2.passed + 1 }) there))

      pub natives : (name : List ℕ) (args : List Held) (w : World S) → In w.roots →
          Reaches (rules.native_or m out name r args f w go fails)
      natives name args w at =
          by_native (native_of m.law w.host name (rules.kinds_in (given r args))) where
            by_native : (o : Option Native) →
                Reaches (rules.native_found_or m out o name r args f w go fails)
            by_native None =
                failing (not_found name (values_in (given r args)) (rules.position m f)) w at
            by_native (Some q) =
                by_test Reaches (q.writes && first_is_read_only (given r args))
                (fails (Plain (NonPureCall name) (rules.position m f)) w)
                (rules.host_called_or m out q.key r args f w go fails)
                (λ not. failing (Plain (NonPureCall name) (rules.position m f)) w at)
                (λ may. calls q.key args w at)
