-- How a frame catches a fault.
use Rattle.std.specs.Prelude.{◌≡◌, ◌<◌, ◌≤◌, ℕ, List, [], ◌∷◌, Bool, true, false, Option, Some, None, Result, Ok, Err, length}
use Rattle.grain_value.specs.declared.memory.OutOfMemory.{OutOfMemory}
use Rattle.grain_value.specs.Operands.{top}
use Rattle.grain_fault.specs.Problems.{NoMemory, problem_of}
use Rattle.grain_fault.specs.declared.faults.EvalAltResult.{EvalAltResult}
use Rattle.grain_program.specs.View.{View}
use Rattle.grain_program.specs.declared.code.parts.Chunk.{Chunk}
use Rattle.grain_program.specs.TypedAt.{IsTypedAt, IsCovered}
use Rattle.grain_global.specs.declared.engines.Engine.{Engine}
use Rattle.grain_stack.specs.declared.handlers.Handler.{Handler}
use Rattle.grain_means.specs.Worlds.{Act, Go, End, Came, Failed, Frame, InFrame, InCatch, Place, Setup, World}
use Rattle.grain_means.specs.Rules.{leave_by_fault, offered, resumed}
use Rattle.grain_means.specs.Simulation.{Computation}
use Rattle.grain_frame.specs.Abstraction.{frame_in, handler_in, handlers_in, tries_in, Above, CanCatch}
use Rattle.grain_frame.specs.declared.activations.Activation.{Activation}
use Rattle.grain_vm.specs.declared.loops.Stop.{Stop}
use Rattle.grain_vm.specs.declared.loops.Stop.TheVariants as stop
use Rattle.grain_frame.specs.declared.runs.Run.{Run}

-- the innermost handler, if there is one, has caught nothing yet
abbrev pub IsArmed : List Handler → Type 0
IsArmed [] = Unit {0}
IsArmed (h ∷ hs) = h.caught ≡ None

-- what happens to a fault that is offered: a handler catches it, with these handlers around it, or it
-- leaves the frame
abbrev pub found : {S : Type 0} → Setup S → Option Handler → List Handler → Frame →
    EvalAltResult → World S → Act S
found m None hs f x w = leave_by_fault m f (problem_of x) w
found m (Some h) hs f x w =
    Go (InCatch (record f { handlers = handlers_in hs }) (handler_in h) (problem_of x)) w

-- these handlers, with this one before them, if there is one
abbrev pub with_found : Option Handler → List Handler → List Handler
with_found None hs = hs
with_found (Some h) hs = h ∷ hs

-- wherever the old handlers fit, in a typing and above a base, the new ones do too
pub record StandsFor (old new : List Handler) : Type 0 where
  pub covered : (p : View) (c : Chunk) (depth cursors : ℕ) →
      IsCovered p c depth cursors (tries_in old) → IsCovered p c depth cursors (tries_in new)
  pub above : (base : ℕ) → Above base old → Above base new

-- what is to be done after a handler caught: the frame goes on at the target, or a fault leaves it
abbrev pub catch_continuation : {H : Type 0} → Result Bool OutOfMemory → EvalAltResult → ℕ →
    (Option Place → Frame) → Computation H
catch_continuation (Ok true) x target f m place w = Go (InFrame (resumed (f place) target)) w
catch_continuation (Ok false) x target f m place w =
    leave_by_fault m (f place) (problem_of x) w
catch_continuation (Err e) x target f m place w = leave_by_fault m (f place) NoMemory w

-- the frames around the innermost one are as they were, with their scopes and each `this`, and the
-- level is the same
pub record KeepsRun {H : Type 0} (s s' : Run H) : Type 0 where
  pub room : s'.stacks.room ≡ s.stacks.room
  pub outer : s'.stacks.outer ≡ s.stacks.outer
  pub saved : s'.saved ≡ s.saved
  pub level : s'.level ≡ s.level
  pub receivers : s'.receivers ≡ s.receivers
  pub later : s.count ≤ s'.count

-- the frame goes on at an address, or a fault has left it
abbrev pub caught_or_left : {H : Type 0} → Result (Option ℕ) OutOfMemory → EvalAltResult →
    (Option Place → Frame) → Computation H
caught_or_left (Ok (Some target)) x f m place w = Go (InFrame (resumed (f place) target)) w
caught_or_left (Ok None) x f m place w = End (Failed (problem_of x)) w
caught_or_left (Err e) x f m place w = End (Failed NoMemory) w

-- the same outcome with the address, if the frame goes on
abbrev pub caught_at : Result Bool OutOfMemory → ℕ → Result (Option ℕ) OutOfMemory
caught_at (Ok true) address = Ok (Some address)
caught_at (Ok false) address = Ok None
caught_at (Err e) address = Err e

-- if the frame goes on, its floor is the old one
abbrev pub GoesOnWith : Result Bool OutOfMemory → (floor old : ℕ) → Type 0
GoesOnWith (Ok true) floor old = floor ≡ old
GoesOnWith (Ok false) floor old = Unit {0}
GoesOnWith (Err e) floor old = Unit {0}

-- After a handler caught: if the frame goes on, there are as many operands and cursors as when the
-- handler was pushed, the handler is the innermost and has caught a fault, the scope has no fewer
-- entries than at the push, and an operation was charged. The outer frames are as they were.
abbrev pub CaughtBy : {H : Type 0} → Engine → Handler → Run H → Run H → Result Bool OutOfMemory →
    Type 0
CaughtBy engine h s s' (Ok true) = KeepsRun s s' × (s'.stacks.noted ≡ s.stacks.noted) ×
    (length s'.stacks.operands ≡ h.operands) × (length s'.stacks.cursors ≡ h.cursors) ×
    (h.scope ≤ length s'.scope) ×
    ((x : EvalAltResult) × (s'.stacks.handlers ≡ record h { caught = Some x } ∷ s.stacks.handlers))
    × (s.count < s'.count) × (s.count < engine.limits.operations)
CaughtBy engine h s s' (Ok false) = KeepsRun s s' × (s'.stacks.noted ≡ s.stacks.noted)
CaughtBy engine h s s' (Err e) = KeepsRun s s' × (s'.stacks.noted ≡ s.stacks.noted)

-- After a fault was offered: the outer frames are as they were, and if the frame goes on, an
-- operation was charged.
abbrev pub Caught : {H : Type 0} → Engine → Run H → Run H → Result (Option ℕ) OutOfMemory → Type 0
Caught engine s s' (Ok (Some target)) = KeepsRun s s' × (s'.stacks.noted ≡ s.stacks.noted) ×
    (s.count < s'.count) × (s.count < engine.limits.operations)
Caught engine s s' (Ok None) = KeepsRun s s'
Caught engine s s' (Err e) = KeepsRun s s'

-- if the frame goes on, the verifier's typing has it at the address
abbrev pub CaughtAt : {H : Type 0} → View → Activation → Run H → Result (Option ℕ) OutOfMemory →
    Type 0
CaughtAt p f s (Ok (Some target)) = (f.base ≤ length s.scope) ×
    IsTypedAt p f.chunk target (length s.stacks.operands) (length s.stacks.cursors)
    (tries_in s.stacks.handlers) × Above f.base s.stacks.handlers
CaughtAt p f s (Ok None) = Unit {0}
CaughtAt p f s (Err e) = Unit {0}

-- a frame at an address, with a floor, and with the slot of the step that it blames
abbrev pub activation_at : Chunk → (base address floor : ℕ) → Option ℕ → Activation
activation_at c base address floor slot =
    record { chunk = c; address = address; base = base; floor = floor; slot = slot }

-- the frame that stopped by a fault, as the run has it
abbrev pub stopped_frame : {H : Type 0} → Chunk → ℕ → Run H → Activation
stopped_frame c base s =
    activation_at c base s.stopped.address s.stopped.floor s.stopped.slot

-- what is to be done once a frame stopped: it is over, or a fault is offered to its handlers
abbrev pub stop_continuation : {H : Type 0} → Result Stop OutOfMemory → Chunk → ℕ → Run H →
    Computation H
stop_continuation (Ok stop.Value) c base s m place w = End (Came (top s.stacks.operands).value) w
stop_continuation (Ok stop.Fault) c base s m place w =
    offered m (frame_in (stopped_frame c base s) s place) (problem_of s.fault) w
stop_continuation (Err e) c base s m place w = End (Failed NoMemory) w

-- after a fault the trace has no note of the frame yet, and its handlers can catch
abbrev pub StopsSo : {H : Type 0} → View → Chunk → ℕ → Run H → Result Stop OutOfMemory → Type 0
StopsSo p c base s (Ok stop.Value) = Unit {0}
StopsSo p c base s (Ok stop.Fault) =
    (s.stacks.noted ≡ false) × CanCatch p (stopped_frame c base s) s
StopsSo p c base s (Err e) = Unit {0}
