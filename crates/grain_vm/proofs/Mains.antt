-- How main is entered and left.
use Rattle.std.proofs.Common.{◌≡◌, ◌∙◌, ◌+◌, ℕ, List, [], ◌∷◌, Bool, false, Option, Some, None, length, refl, ap, sym, subst, arith}
use Rattle.grain_value.specs.declared.scopes.Entry.{Entry}
use Rattle.grain_value.specs.declared.stores.Cell.{Cell}
use Rattle.grain_value.specs.declared.values.Held.{Held}
use Rattle.grain_fault.specs.declared.faults.EvalAltResult.{EvalAltResult}
use Rattle.grain_fault.specs.declared.traces.Fault.{Fault}
use Rattle.grain_program.specs.declared.code.parts.Chunk.{Chunk}
use Rattle.grain_program.specs.laws.TypedAt.{begins}
use Rattle.grain_program.specs.Typing.{IsProgram}
use Rattle.grain_program.specs.View.{View}
use Rattle.grain_stack.specs.Views.{StackFrame, StacksView, with_frame, without_frame}
use Rattle.grain_means.specs.Worlds.{Go, End, Then, Answer, Setup, Frame, InFrame, Place}
use Rattle.grain_means.specs.Rules.{called, closed, main_frame}
use Rattle.grain_means.specs.Simulation.{Binds, LocalState, Computation, Simulates, SimulatesExactly, StopPersists, no_environment, puts}
use Rattle.grain_means.specs.lemmas.Stretches.{clear_before, same, compose, continued, halts_there}
use Rattle.grain_global.specs.StepsView.{StepsView}
use Rattle.grain_frame.specs.Abstraction.{abstraction, Runs}
use Rattle.grain_frame.specs.Receivers.{bound_at}
use Rattle.grain_frame.specs.declared.activations.Activation.{Activation}
use Rattle.grain_frame.specs.declared.receivers.Bound.{Bound}
use Rattle.grain_frame.specs.declared.runs.Run.{Run}

module _ {H : Type 0} {m : Setup H} where
  -- a call begins and main's frame is entered: two marks
  enters : (old : LocalState H) → SimulatesExactly m old (λ n place w. called n place w) false
      (record old { passed = old.passed + 1 + 1 })
      (λ n place w. Then (Go (InFrame (main_frame m old.scope place)) w) (closed n old.trace))
  enters old = record {
    this = refl;
    order = omega arith;
    equal = λ stop clear halts u place.
        rw (
          clear old.passed (omega arith) (omega arith),
          clear (old.passed + 1) (omega arith) (omega arith),
        ) refl;
  }

  -- main was run from its entry to its end
  pub main_ran : (old : LocalState H) {mid after new : LocalState H} {f : Option Place → Frame}
      {b : Answer} {one two : Bool} {last : Computation H} →
      mid ≡ record old { passed = old.passed + 1 + 1 } →
      f ≡ (λ place. main_frame m old.scope place) →
      Simulates m mid (λ n place w. Go (InFrame (f place)) w) one after (λ n place w. End b w) →
      SimulatesExactly m after (λ n place w. closed n old.trace b w) two new last →
      StopPersists one after.passed two new.passed →
      Simulates m old (λ n place w. called n place w) two new last
  main_ran old {mid} {after} {f = f} {b} {one} e frame ran close persists =
      let there =
      subst (λ (q : LocalState H). Simulates m q (λ n place w. Go (InFrame (f place)) w) one
      after (λ n place w. End b w)) e ran in
      let here =
      subst (λ (q : Option Place → Frame).
      Simulates m (record old { passed = old.passed + 1 + 1 })
      (λ n place w. Go (InFrame (q place)) w) one after (λ n place w. End b w)) frame there in
      compose (same (enters old))
      (compose (continued (λ n place. closed n old.trace) here) (same close) persists) tt

-- main's frame runs, from its chunk's entry
pub main_runs : {H : Type 0} (p : View) → IsProgram p → (s : Run H) (chunk : Chunk) (v : StacksView)
    (a : Activation) (size : ℕ) → chunk ≡ p.main → v ≡ with_frame chunk.max_stack s.stacks →
    size ≡ length s.scope →
    a ≡ record { chunk = chunk; address = chunk.entry; base = size; floor = size; slot = None } →
    Runs p a (record s { stacks = v })
main_runs p valid s chunk v a size ec ev en ea = rw (ea, ev, ec, en) (record {
  inside = omega arith;
  typed = begins p valid;
  above = tt;
  room = refl;
  unnoted = refl;
  entered = omega arith;
})

-- the frames around a frame that is left change nothing that the meaning sees
pub left_stack : {H : Type 0} {m : Setup H} {old : LocalState H} {start : Computation H}
    {out : Bool} {now : Computation H} (s : Run H) (v : StacksView) (n : StepsView) (host : H)
    (f : StackFrame) (fs : List StackFrame) → s.stacks.outer ≡ f ∷ fs →
    v ≡ without_frame s.stacks.outer s.stacks →
    Simulates m old start out (abstraction s n host) now →
    Simulates m old start out (abstraction (record s { stacks = v }) n host) now
left_stack {H = H} {m = m} {old} {start} {out} {now} s v n host f fs eo ev h =
    let trace : v.trace ≡ s.stacks.trace =
    ap (λ (q : StacksView). q.trace)
    (ev ∙ ap (λ (gs : List StackFrame). without_frame gs s.stacks) eo) in
    let alike : abstraction s n host ≡ abstraction (record s { stacks = v }) n host =
    rw trace refl in
    subst (λ (q : LocalState H). Simulates m old start out q now) alike h

-- the answer of main's frame was taken, and the frame is left
pub answered_stack : {H : Type 0} {m : Setup H} {old : LocalState H} {start : Computation H}
    {out out' : Bool} {b b' : Answer} (s t : Run H) (v : StacksView) (n : StepsView) (host : H)
    (f : StackFrame) (fs : List StackFrame) {operands : List Held} {fault : EvalAltResult} →
    s.stacks.outer ≡ f ∷ fs →
    t ≡ record s { stacks = record s.stacks { operands = operands }; fault = fault } →
    v ≡ without_frame t.stacks.outer t.stacks → out' ≡ out → b' ≡ b →
    Simulates m old start out (abstraction s n host) (λ n place w. End b w) →
    Simulates m old start out' (abstraction (record t { stacks = v }) n host)
    (λ n place w. End b' w)
answered_stack {H = H} {m = m} {old} {start} {out} {out'} {b} {b'} s t v n host f fs eo et ev eout
    eb h =
    let outer : t.stacks.outer ≡ f ∷ fs = ap (λ (q : Run H). q.stacks.outer) et ∙ eo in
    let alike : abstraction s n host ≡ abstraction t n host =
    sym (ap (λ (q : Run H). abstraction q n host) et) in
    rw (eout, eb)
    (left_stack t v n host f fs outer ev
    (subst (λ (q : LocalState H). Simulates m old start out q (λ n place w. End b w)) alike h))

-- what the code has when a call begins
pub first_state : {H : Type 0} (trace : List Fault) (scope held : List Entry)
    (cells kept : List Cell) (receivers : List Bound) (host : H) (count level before : ℕ)
    (n : StepsView) → trace ≡ [] → held ≡ scope → kept ≡ cells →
    n ≡ record { before = before; begun = 0; passed = 0 } → receivers ≡ [] →
    ◌≡◌ {A = LocalState H}
    (record {
      scope = held;
      cells = kept;
      host = host;
      this = bound_at level receivers;
      count = count;
      level =
          level;
      trace = trace;
      ran = n.begun;
      passed = n.passed;
    })
    (record {
      scope = scope;
      cells = cells;
      host = host;
      this = None;
      count = count;
      level = level;
      trace = [];
      ran = 0;
      passed = 0;
    })
first_state trace scope held cells kept receivers host count level before n et es ec en er =
    rw (et, es, ec, en, er) refl

-- a call that begins without a `this` ends without one
pub without_this : {H : Type 0} {m : Setup H} {old : LocalState H} {start : Computation H}
    {out : Bool} {new : LocalState H} {now : Computation H} → old.this ≡ None →
    Simulates m old start out new now → Simulates m old start out (record new { this = None }) now
without_this {H = H} {m = m} {old} {start} {out} {new} {now} none h =
    subst (λ (x : Option Held). Simulates m old start out (record new { this = x }) now)
    (by new.this (h.leads (Some new.passed) (clear_before old.passed new.passed)
    (halts_there out new.passed) no_environment None (rw none tt)).0) h where
      by : (x : Option Held) → Binds (puts [] None x) None x → x ≡ None
      by None bound = refl
      by (Some t) bound = absurd bound
