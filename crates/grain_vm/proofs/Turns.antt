-- One turn of a frame's loop, and how a frame is left.
use Rattle.std.proofs.Common.{◌≡◌, ◌+◌, ℕ, Option, [], ◌∷◌, ◌++◌, Bool, true, false, Ok, List, length, ◌∙◌, take, refl, sym, subst, ap, arith}
use Rattle.grain_fault.specs.declared.faults.EvalAltResult.{EvalAltResult}
use Rattle.grain_fault.specs.Problems.{Problem}
use Rattle.grain_program.specs.View.{View}
use Rattle.grain_program.specs.TypedAt.{IsTypedAt}
use Rattle.grain_program.specs.declared.code.parts.Chunk.{Chunk}
use Rattle.grain_stack.specs.Views.{StackFrame}
use Rattle.grain_means.specs.Worlds.{End, Failed, Setup, Frame, Place}
use Rattle.grain_means.specs.Rules.{leave_by_fault}
use Rattle.grain_means.specs.Simulation.{LocalState, Computation, Simulates, SimulatesExactly, StopPersists}
use Rattle.grain_means.specs.lemmas.Stretches.{same, compose}
use Rattle.grain_frame.specs.Abstraction.{tries_in, Above, continuation, KeepsFrame, Runs}
use Rattle.grain_frame.specs.Receivers.{KeepsBound}
use Rattle.grain_frame.specs.declared.receivers.Bound.{Bound}
use Rattle.grain_frame.specs.Attempts.{Unchanged}
use Rattle.grain_vm.specs.Methods.{NoneAbove}
use Rattle.grain_vm.proofs.BoundFrames.{still_none}
use Rattle.grain_frame.specs.declared.runs.Progress.{Progress}
use Rattle.grain_frame.specs.declared.runs.Run.{Run}
use Rattle.grain_frame.specs.declared.activations.Activation.{Activation}
use Rattle.grain_global.specs.StepsView.{StepsView}

pub moved_back : {H : Type 0} (P : Run H → Activation → StepsView → Type 0) {s s' : Run H}
    {f f' : Activation} {n n' : StepsView} → Unchanged f s n f' s' n' → P s' f' n' → P s f n
moved_back {H = H} P {s} {s'} {f} {f'} {n} {n'} u h =
    subst (λ (k : StepsView). P s f k) u.2
    (subst (λ (a : Activation). P s a n') u.1 (subst (λ (t : Run H). P t f' n') u.0 h))

module _ {H : Type 0} {m : Setup H} where
  -- where it led, by its progress
  pub flowed : {old : LocalState H} {start : Computation H} {new : LocalState H}
      (f : Option Place → Frame) (x : EvalAltResult) {one other : Progress} → one ≡ other →
      Simulates m old start false new (continuation (Ok one) x f) →
      Simulates m old start false new (continuation (Ok other) x f)
  flowed {old} {start} {new} f x e h =
      subst (λ (q : Progress). Simulates m old start false new (continuation (Ok q) x f)) e h

  -- a fault leaves a frame
  pub left_out : {old : LocalState H} {start : Computation H} {out : Bool} (mid new : LocalState H)
      (f : Option Place → Frame) (floor at : ℕ) (slot : Option ℕ) {x : Problem} →
      ((place : Option Place) → (f place).floor ≡ floor) →
      ((place : Option Place) → (f place).address ≡ at) →
      ((place : Option Place) → (f place).slot ≡ slot) →
      new ≡ record mid {
        scope = take floor mid.scope;
        trace =
            mid.trace ++ record { address = at; slot = slot } ∷ [];
      } →
      Simulates m old start out mid (λ n place w. leave_by_fault n (f place) x w) →
      Simulates m old start out new (λ n place w. End (Failed x) w)
  left_out {out = out} mid new f floor at slot {x} low here blamed e h =
      compose h (same (leaves out)) (carried out) where
        leaves : (out : Bool) →
            SimulatesExactly m mid (λ n place w. leave_by_fault n (f place) x w) out new
            (λ n place w. End (Failed x) w)
        leaves out =
            record {
              this = ap (λ (k : LocalState H). k.this) e;
              order =
                  omega (arith, ap (λ (k : LocalState H). k.passed) e);
              equal =
                  λ stop clear halts u place. rw (e, low place, here place, blamed place) refl;
            }

        carried : (out : Bool) → StopPersists out mid.passed out new.passed
        carried false = tt
        carried true = (refl, ap (λ (k : LocalState H). k.passed) e)

-- the frame runs on
pub next_runs : {H : Type 0} (p : View) (f f' : Activation) (s s' : Run H) → Runs p f s →
    KeepsFrame f s f' s' →
    IsTypedAt p f'.chunk f'.address (length s'.stacks.operands) (length s'.stacks.cursors)
    (tries_in s'.stacks.handlers) →
    Above f'.base s'.stacks.handlers → Runs p f' s'
next_runs p f f' s s' runs kept typed above = record {
  inside = omega (arith, kept.base, kept.scope);
  typed = typed;
  above = above;
  room = ap (λ (c : Chunk). c.max_stack) kept.chunk ∙ (runs.room ∙ sym kept.room);
  unnoted = kept.noted ∙ runs.unnoted;
  entered = omega (arith, runs.entered, ap (λ (fs : List StackFrame). length fs) kept.outer);
}

-- no frame above has a `this` afterwards
pub none_on : {level now : ℕ} (a b : List Bound) → now ≡ level → KeepsBound level a b →
    NoneAbove level a → NoneAbove now b
none_on {level} {now} a b same kept none =
    subst (λ (l : ℕ). NoneAbove l b) (sym same) (still_none level a b kept none)
