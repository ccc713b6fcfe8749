-- A call, its body, and what follows it.
use Rattle.std.proofs.Common.{◌≡◌, ◌+◌, ◌-◌, ◌∙◌, ℕ, zero, suc, List, [], ◌∷◌, ◌++◌, Option, None, Bool, true, false, Ok, length, refl, sym, subst, ap, arith, length-append}
use Rattle.std.specs.Prelude.{slice_index_or}
use Rattle.grain_value.specs.declared.scopes.Entry.{Entry}
use Rattle.grain_value.specs.declared.values.Held.{Held}
use Rattle.grain_value.specs.Operands.{under}
use Rattle.grain_fault.specs.Problems.{NoMemory, problem_of}
use Rattle.grain_program.specs.declared.code.functions.Function.{Function}
use Rattle.grain_global.specs.declared.engines.Engine.{Engine}
use Rattle.grain_stack.specs.Views.{StackFrame, StacksView, innermost, without_frame}
use Rattle.grain_means.specs.Worlds.{Go, End, Then, Answer, Failed, Setup, Frame, InFrame, Place}
use Rattle.grain_means.specs.Rules.{leave_by_fault, offered, without, frame_at, enter_function, resume_caller}
use Rattle.grain_means.specs.Simulation.{LocalState, Computation, Simulates, SimulatesExactly, StopPersists, stopped, world}
use Rattle.grain_means.specs.lemmas.Stretches.{same, compose, continued}
use Rattle.grain_global.specs.StepsView.{StepsView}
use Rattle.grain_frame.specs.Abstraction.{abstraction, frame_in, handlers_in, continuation, this_of}
use Rattle.grain_vm.specs.Calls.{caller_of, call_continuation, CallEntered, CallRefused, EnterResult}
use Rattle.grain_vm.specs.Driving.{beside}
use Rattle.grain_vm.proofs.MethodCalls.{elsewhere}
use Rattle.grain_vm.proofs.Offering.{memory_leaves}
use Rattle.grain_frame.specs.declared.activations.Activation.{Activation}
use Rattle.grain_frame.specs.declared.runs.Run.{Run}
use Rattle.grain_frame.specs.declared.runs.Progress.TheVariants as progress

module _ {H : Type 0} {m : Setup H} (f : Option Place → Frame) (next : ℕ) (g : Function) where
  -- the body was run, and the caller goes on
  pub call_ran : {old mid after there new : LocalState H} {inner outer : Option Place → Frame}
      (scope : List Entry) (level : ℕ) {b : Answer} {one two : Bool} {last : Computation H} →
      (x : Option Held) → SimulatesExactly m old
      (λ p place w. enter_function p g (length g.params) (f place) next w) false
      (record mid { this = x })
      (λ p place w. Then (Go (InFrame (frame_at g.chunk 0 None)) w)
      (λ a w2. resume_caller p g (without (length g.params) (f place)) next a
      (record w2 { scope = scope; level = level }))) →
      ((place : Option Place) → inner place ≡ frame_at g.chunk 0 place) → mid.this ≡ None →
      Simulates m mid (λ p place w. Go (InFrame (inner place)) w) one after
      (λ p place w. End b w) →
      there ≡ record after { scope = scope; level = level; this = x } →
      ((place : Option Place) → outer place ≡ without (length g.params) (f place)) →
      SimulatesExactly m there (λ p place w. resume_caller p g (outer place) next b w) two new
      last → StopPersists one after.passed two new.passed →
      Simulates m old (λ p place w. enter_function p g (length g.params) (f place) next w) two new
      last
  call_ran {old} {mid} {after} {there} {new} {inner} {outer} scope level {b = b} {one} {two} {last} x
      begins at none ran is rest resumes persists =
      let body : Simulates m (record mid { this = x })
      (λ p place w. Go (InFrame (frame_at g.chunk 0 None)) w) one (record after { this = x })
      (λ p place w. End b w) =
      elsewhere {first = λ p place w. Go (InFrame (frame_at g.chunk 0 place)) w} x none
      (by_frame at ran) in
      let here : SimulatesExactly m (record after { scope = scope; level = level; this = x })
      (λ p place w. resume_caller p g (outer place) next b w) two new last =
      subst (λ (q : LocalState H).
      SimulatesExactly m q (λ p place w. resume_caller p g (outer place) next b w) two new last)
      is resumes in
      compose (same begins)
      (compose (continued
      (λ p place a w2. resume_caller p g (without (length g.params) (f place)) next a
      (record w2 { scope = scope; level = level })) body) (same (goes_on here rest)) persists)
      tt where
        by_frame : ((place : Option Place) → inner place ≡ frame_at g.chunk 0 place) →
            Simulates m mid (λ p place w. Go (InFrame (inner place)) w) one after
            (λ p place w. End b w) →
            Simulates m mid (λ p place w. Go (InFrame (frame_at g.chunk 0 place)) w) one after
            (λ p place w. End b w)
        by_frame at ran =
            compose {one = false}
            (same (record {
              this = refl;
              order = omega arith;
              equal = λ stop clear halts u place.
                  rw (at place) refl;
            })) ran tt

        -- the caller's scope and level are back
        goes_on : SimulatesExactly m (record after { scope = scope; level = level; this = x })
            (λ p place w. resume_caller p g (outer place) next b w) two new last →
            ((place : Option Place) → outer place ≡ without (length g.params) (f place)) →
            SimulatesExactly m (record after { this = x })
            (λ p place w. resume_caller p g (without (length g.params) (f place)) next b
            (record w { scope = scope; level = level })) two new last
        goes_on h rest =
            record {
              this = h.this;
              order = h.order;
              equal = λ stop clear halts u place.
                  rw (← rest place) (h.equal stop clear halts u place);
            }

-- the call has begun
pub has_begun : {H : Type 0} {m : Setup H} {old new : LocalState H} {start : Computation H}
    (b : Bool) (s s1 : Run H) (g : Function) (f : Option Place → Frame) (next : ℕ) → b ≡ true →
    SimulatesExactly m old start false new (call_continuation (Ok b) s s1 g f next) →
    SimulatesExactly m old start false new (call_continuation (Ok true) s s1 g f next)
has_begun {m = m} {old} {new} {start} b s s1 g f next e h =
    subst (λ (q : Bool). SimulatesExactly m old start false new
    (call_continuation (Ok q) s s1 g f next)) e h

-- a fault left the frame before the call began
pub not_begun : {H : Type 0} {m : Setup H} {old new : LocalState H} {start : Computation H}
    (b : Bool) (s s1 : Run H) (g : Function) (f : Option Place → Frame) (next : ℕ) → b ≡ false →
    SimulatesExactly m old start false new (call_continuation (Ok b) s s1 g f next) →
    SimulatesExactly m old start false new (call_continuation (Ok false) s s1 g f next)
not_begun {m = m} {old} {new} {start} b s s1 g f next e h =
    subst (λ (q : Bool). SimulatesExactly m old start false new
    (call_continuation (Ok q) s s1 g f next)) e h

-- where a call has not begun, the frame has its own `this`
pub refused_this : {H : Type 0} (s s1 : Run H) (n : StepsView) (host : H) → CallRefused s s1 →
    beside s1.scope (this_of s) s1 n host ≡ abstraction s1 n host
refused_this s s1 n host kept = rw (kept.level, kept.receivers) refl

-- the fault is raised in the frame as it stands
pub refused_here : {H : Type 0} {m : Setup H} {old new : LocalState H} {start : Computation H}
    (f : Activation) (s s1 : Run H) → CallRefused s s1 →
    SimulatesExactly m old start false new
    (λ m place w. offered m (frame_in f s place) (problem_of s1.fault) w) →
    SimulatesExactly m old start false new
    (continuation (Ok progress.Failed) s1.fault (frame_in f s1))
refused_here f s s1 kept h = record {
  this = h.this;
  order = h.order;
  equal = λ stop clear halts u place. h.equal stop clear halts u place
      ∙ rw (kept.operands, kept.cursors, kept.totals, kept.handlers) refl;
}

-- want of memory in a body leaves the caller too, whatever its handlers are
pub memory_passes : {H : Type 0} {m : Setup H} (f : Activation) (s t : Run H) (g : Function)
    (next : ℕ) (n : StepsView) (host : H) → abstraction t n host ≡ abstraction s n host →
    SimulatesExactly m (abstraction s n host)
    (λ k place w. resume_caller k g (frame_in f s place) next (Failed NoMemory) w) true
    (abstraction t n host) (λ k place w. leave_by_fault k (frame_in f t place) NoMemory w)
memory_passes {H = H} {m = m} f s t g next n host e = record {
  this = ap (λ (q : LocalState H). q.this) e;
  order = omega arith;
  equal = λ stop clear halts u place.
      memory_leaves (stopped m stop) (handlers_in s.stacks.handlers) (frame_in f s place)
      (world (abstraction s n host) u)
      ∙ ap (λ (q : LocalState H). leave_by_fault (stopped m stop) (frame_in f s place) NoMemory
      (world q u)) (sym e);
}

pub entered_with : {H : Type 0} (engine : Engine) (g : Function) (s s1 : Run H) (b : Bool) →
    b ≡ true → EnterResult engine g s s1 (Ok b) → CallEntered engine g s s1
entered_with engine g s s1 true e h = h
entered_with engine g s s1 false e h = absurd cc

pub kept_with : {H : Type 0} (engine : Engine) (g : Function) (s s1 : Run H) (b : Bool) →
    b ≡ false → EnterResult engine g s s1 (Ok b) → CallRefused s s1
kept_with engine g s s1 true e h = absurd cc
kept_with engine g s s1 false e h = h

-- the scope that was put aside last
last_saved : (xs : List (List Entry)) (x : List Entry) (n : ℕ) → n ≡ length xs →
    slice_index_or (xs ++ x ∷ []) n [] ≡ x
last_saved [] x zero e = refl
last_saved [] x (suc n) e = absurd (omega (arith, e))
last_saved (y ∷ xs) x zero e = absurd (omega (arith, e))
last_saved (y ∷ xs) x (suc n) e = last_saved xs x n (omega (arith, e))

-- after a frame on a scope of its own, the caller's scope and level are back
module _ {H : Type 0} (s s2 : Run H) (waiting : s2.saved ≡ s.saved ++ s.scope ∷ [])
    (up : s2.level ≡ s.level + 1) where
  pub one_less : length s2.saved - 1 ≡ length s.saved
  one_less =
      omega (
        arith,
        ap (λ (l : List (List Entry)). length l) waiting,
        length-append s.saved (s.scope ∷ []),
      )

  pub scope_back : (caller_of s2).scope ≡ s.scope
  scope_back = ap (λ (l : List (List Entry)). slice_index_or l (length s2.saved - 1) []) waiting ∙
      last_saved s.saved s.scope (length s2.saved - 1) one_less

  pub level_back : (caller_of s2).level ≡ s.level
  level_back = omega (arith, up)

module _ {H : Type 0} (engine : Engine) (f f' : Activation) (s s1 s2 s' : Run H) (g : Function)
    (k next : ℕ) (entered : CallEntered engine g s s1) (outer : s2.stacks.outer ≡ s1.stacks.outer)
    (saved : s2.saved ≡ s1.saved) (level : s2.level ≡ s1.level) where
  frames : s2.stacks.outer ≡ record (innermost s.stacks)
      { operands = under (length g.params) s.stacks.operands } ∷ s.stacks.outer
  frames = outer ∙ entered.caller

  waiting : s2.saved ≡ s.saved ++ s.scope ∷ []
  waiting = saved ∙ entered.saved

  -- the caller's frame is the innermost again
  stacks_back : (caller_of s2).stacks ≡
      record s2.stacks {
        operands = under (length g.params) s.stacks.operands;
        room = s.stacks.room;
        noted = s.stacks.noted;
        cursors = s.stacks.cursors;
        totals = s.stacks.totals;
        handlers = s.stacks.handlers;
        outer = s.stacks.outer;
      }
  stacks_back = ap (λ (fs : List StackFrame). without_frame fs s2.stacks) frames

  operands_back : (caller_of s2).stacks.operands ≡ under (length g.params) s.stacks.operands
  operands_back = ap (λ (v : StacksView). v.operands) stacks_back

  handlers_back : (caller_of s2).stacks.handlers ≡ s.stacks.handlers
  handlers_back = ap (λ (v : StacksView). v.handlers) stacks_back

  cursors_back : (caller_of s2).stacks.cursors ≡ s.stacks.cursors
  cursors_back = ap (λ (v : StacksView). v.cursors) stacks_back

  totals_back : (caller_of s2).stacks.totals ≡ s.stacks.totals
  totals_back = ap (λ (v : StacksView). v.totals) stacks_back

  -- what the code has once the caller's scope and level are back, with its `this`
  pub there_is : s2.receivers ≡ s.receivers → (n : StepsView) (host : H) →
      abstraction (caller_of s2) n host ≡
      record (abstraction s2 n host) { scope = s.scope; level = s.level; this = this_of s }
  there_is bound n host = rw (
    scope_back s s2 waiting (level ∙ entered.level),
    level_back s s2 waiting (level ∙ entered.level),
    ap (λ (v : StacksView). v.trace) stacks_back,
    bound,
  ) refl

  -- the caller's frame is without the arguments
  pub outer_is : length g.params ≡ k → (place : Option Place) → frame_in f (caller_of s2) place ≡
      without k (frame_in f s place)
  outer_is all place = rw (operands_back, cursors_back, totals_back, handlers_back, all) refl
