-- How a call begins and ends, and what a frame that is over gave.
use Rattle.std.specs.Prelude.{◌≡◌, ◌⊎◌, ◌<◌, ◌≤◌, ◌+◌, ◌-◌, ℕ, [], ◌∷◌, ◌++◌, Bool, true, false, Option, None, Result, Ok, Err, length, take, slice_index_or}
use Rattle.grain_value.specs.declared.values.Dynamic.{Dynamic}
use Rattle.grain_value.specs.declared.memory.OutOfMemory.{OutOfMemory}
use Rattle.grain_value.specs.Operands.{top, under}
use Rattle.grain_fault.specs.Classes.{catchable}
use Rattle.grain_fault.specs.Positions.{at_position}
use Rattle.grain_fault.specs.Problems.{InFunctionCall, NoMemory, Problem, problem_of}
use Rattle.grain_fault.specs.declared.places.Position.{Position}
use Rattle.grain_global.specs.StepsView.{StepsView}
use Rattle.grain_program.specs.View.{View, name_of, source_text}
use Rattle.grain_fault.specs.declared.faults.EvalAltResult.{EvalAltResult}
use Rattle.grain_program.specs.declared.code.functions.Function.{Function}
use Rattle.grain_program.specs.declared.code.parts.Chunk.{Chunk}
use Rattle.grain_global.specs.declared.engines.Engine.{Engine}
use Rattle.grain_stack.specs.Views.{innermost, without_frame}
use Rattle.grain_means.specs.Worlds.{Go, End, Then, Answer, Came, Failed, Frame, InFrame, Place}
use Rattle.grain_means.specs.Rules.{leave_by_fault, offered, without, frame_at, resume_caller}
use Rattle.grain_means.specs.Simulation.{Computation}
use Rattle.grain_frame.specs.Receivers.{KeepsBound}
use Rattle.grain_frame.specs.declared.activations.Activation.{Activation}
use Rattle.grain_frame.specs.declared.runs.Run.{Run}
use Rattle.grain_frame.specs.declared.runs.Progress.{Progress}
use Rattle.grain_frame.specs.declared.runs.Progress.TheVariants as progress
use Rattle.grain_vm.specs.declared.calls.FrameEnd.{FrameEnd}
use Rattle.grain_vm.specs.declared.calls.FrameEnd.TheVariants as frame_end

-- a frame at the entry of a chunk, on a scope of this length
abbrev pub entry_of : Chunk → ℕ → Activation
entry_of c size =
    record { chunk = c; address = c.entry; base = size; floor = size; slot = None }

-- what a frame that is over gave
abbrev pub frame_answer : {H : Type 0} → Result FrameEnd OutOfMemory → Run H → Answer
frame_answer (Ok frame_end.Value) s = Came (top s.stacks.operands).value
frame_answer (Ok frame_end.Fault) s = Failed (problem_of s.fault)
frame_answer (Err e) s = Failed NoMemory

abbrev pub frame_over : {H : Type 0} → Result FrameEnd OutOfMemory → Run H → Computation H
frame_over r s m place w = End (frame_answer r s) w

-- a run that is over
abbrev pub answer_of : Result (Result Dynamic EvalAltResult) OutOfMemory → Answer
answer_of (Ok (Ok v)) = Came v
answer_of (Ok (Err x)) = Failed (problem_of x)
answer_of (Err e) = Failed NoMemory

abbrev pub finished_with : {H : Type 0} → Result (Result Dynamic EvalAltResult) OutOfMemory →
    Computation H
finished_with r m place w = End (answer_of r) w

-- What a frame that ran leaves as it was: the frames around it, with their scopes and each `this`, its
-- own level and room. It has a `this` if it had one, and no operation is given back.
pub record LeavesAround {H : Type 0} (s : Run H) (n : StepsView) (s' : Run H) (n' : StepsView) :
    Type 0 where
  pub outer : s'.stacks.outer ≡ s.stacks.outer
  pub room : s'.stacks.room ≡ s.stacks.room
  pub saved : s'.saved ≡ s.saved
  pub level : s'.level ≡ s.level
  pub this : KeepsBound s.level s.receivers s'.receivers
  pub later : s.count ≤ s'.count
  pub before : n'.before ≡ n.before

-- A call has begun: its operation is charged, its frame is entered, the caller's frame, without the
-- arguments, is the next one outside it, the caller's scope is put aside, and the level is one higher.
pub record CallEntered {H : Type 0} (engine : Engine) (g : Function) (s s' : Run H) : Type 0 where
  pub saved : s'.saved ≡ s.saved ++ s.scope ∷ []
  pub level : s'.level ≡ s.level + 1
  pub receivers : s'.receivers ≡ s.receivers
  pub caller : s'.stacks.outer
      ≡ record (innermost s.stacks) { operands = under (length g.params) s.stacks.operands }
      ∷ s.stacks.outer
  pub operands : s'.stacks.operands ≡ []
  pub cursors : s'.stacks.cursors ≡ []
  pub totals : s'.stacks.totals ≡ []
  pub handlers : s'.stacks.handlers ≡ []
  pub room : s'.stacks.room ≡ g.chunk.max_stack
  pub unnoted : s'.stacks.noted ≡ false
  pub count : s'.count ≡ s.count + 1
  pub allowed : s.count < engine.limits.operations

-- a fault is raised before the call has begun, or memory is out: the scopes, the level, the outer
-- frames, the operands, the cursors, the totals and the handlers are as they were
pub record CallRefused {H : Type 0} (s s' : Run H) : Type 0 where
  pub scope : s'.scope ≡ s.scope
  pub saved : s'.saved ≡ s.saved
  pub level : s'.level ≡ s.level
  pub receivers : s'.receivers ≡ s.receivers
  pub room : s'.stacks.room ≡ s.stacks.room
  pub noted : s'.stacks.noted ≡ s.stacks.noted
  pub outer : s'.stacks.outer ≡ s.stacks.outer
  pub operands : s'.stacks.operands ≡ s.stacks.operands
  pub cursors : s'.stacks.cursors ≡ s.stacks.cursors
  pub totals : s'.stacks.totals ≡ s.stacks.totals
  pub handlers : s'.stacks.handlers ≡ s.stacks.handlers

-- the frame of a function whose operation is charged is entered, or only the fault of
-- the run has changed
abbrev pub FrameEntered : {H : Type 0} → Function → Run H → Run H → Result Bool OutOfMemory → Type 0
FrameEntered g s s' (Ok true) = (s'.saved ≡ s.saved ++ s.scope ∷ []) × (s'.level ≡ s.level + 1)
    × (s'.stacks.outer
    ≡ record (innermost s.stacks) { operands = under (length g.params) s.stacks.operands }
    ∷ s.stacks.outer)
    × (s'.stacks.operands ≡ []) × (s'.stacks.cursors ≡ []) × (s'.stacks.totals ≡ [])
    × (s'.stacks.handlers ≡ []) × (s'.stacks.room ≡ g.chunk.max_stack)
    × (s'.stacks.noted ≡ false) × (s'.count ≡ s.count) × (s'.receivers ≡ s.receivers)
FrameEntered g s s' (Ok false) = CallRefused s s' × (s'.count ≡ s.count)
FrameEntered g s s' (Err e) = CallRefused s s' × (s'.count ≡ s.count)

abbrev pub EnterResult : {H : Type 0} → Engine → Function → Run H → Run H →
    Result Bool OutOfMemory → Type 0
EnterResult engine g s s' (Ok true) = CallEntered engine g s s'
EnterResult engine g s s' (Ok false) = CallRefused s s'
EnterResult engine g s s' (Err e) = CallRefused s s'

-- What is to be done once a call has begun, from the states before and after: the body, and then
-- the caller, without the arguments, with its answer; or a fault is offered to the frame's handlers.
abbrev pub call_continuation : {H : Type 0} → Result Bool OutOfMemory → (old new : Run H) →
    Function → (Option Place → Frame) → ℕ → Computation H
call_continuation (Ok true) s s' g f next m place w =
    Then (Go (InFrame (frame_at g.chunk 0 None)) w)
    (λ a w2. resume_caller m g (without (length g.params) (f place)) next a
    (record w2 { scope = s.scope; level = s.level }))
call_continuation (Ok false) s s' g f next m place w = offered m (f place) (problem_of s'.fault) w
call_continuation (Err e) s s' g f next m place w = leave_by_fault m (f place) NoMemory w

-- the run after the innermost frame is left, in the frame around it
abbrev pub caller_of : {H : Type 0} → Run H → Run H
caller_of s = record s {
  stacks = without_frame s.stacks.outer s.stacks;
  scope = slice_index_or s.saved (length s.saved - 1) [];
  saved = take (length s.saved - 1) s.saved;
  level = s.level - 1;
}

-- the caller's frame after a call: if it goes on, it has one more operand
abbrev pub CallReturned : {H : Type 0} → Activation → Run H → Activation → Run H → ℕ →
    Result Progress OutOfMemory → Type 0
CallReturned f s f' s' next (Ok progress.Continues) =
    (f' ≡ record f { address = next }) ×
    (length s'.stacks.operands ≡ length s.stacks.operands + 1) ×
    (s' ≡ record s { stacks = record s.stacks { operands = s'.stacks.operands } })
CallReturned f s f' s' next (Ok progress.Returned) = ⊥
CallReturned f s f' s' next (Ok progress.Failed) = (f' ≡ f) × (s' ≡ record s { fault = s'.fault })
CallReturned f s f' s' next (Err e) = (f' ≡ f) × (s' ≡ record s { fault = s'.fault })

-- The fault of a call at a position, after this one left the body of the function: one that cannot be
-- caught gets the position; any other is wrapped, at a mark, or memory is out there.
abbrev pub WrapsBy : Bool → View → Function → Position → Problem → Problem → StepsView → StepsView →
    Type 0
WrapsBy true p g q x y n n' =
    ((y ≡ NoMemory) × (n' ≡ n))
    ⊎ ((y ≡ InFunctionCall (name_of p g.name) (source_text p) x q)
    × (n' ≡ record n { passed = n.passed + 1 }))
WrapsBy false p g q x y n n' = (y ≡ at_position q x) × (n' ≡ n)

abbrev pub WrapsSo : View → Function → Position → Problem → Problem → StepsView → StepsView → Type 0
WrapsSo p g q x y n n' = WrapsBy (catchable x) p g q x y n n'
