-- What an instruction that may call a function does before one is called.
use Rattle.std.specs.Prelude.{ℕ, ◌≡◌, ◌<◌, ◌+◌, ◌-◌, ◌∷◌, [], length, slice_get, Bool, true, false, Option, Some, None, Result, Ok, Err}
use Rattle.grain_value.specs.declared.memory.OutOfMemory.{OutOfMemory}
use Rattle.grain_program.specs.Effects.{takes_of, gives_of, leads_of, looping_of, handling_of}
use Rattle.grain_program.specs.declared.code.effects.Handling.TheVariants as handling
use Rattle.grain_program.specs.declared.code.effects.Looping.TheVariants as looping
use Rattle.grain_program.specs.View.{View}
use Rattle.grain_program.specs.declared.code.functions.Function.{Function}
use Rattle.grain_program.specs.declared.code.instruction_set.Op.{Op}
use Rattle.grain_program.specs.declared.code.instruction_set.Op.TheVariants as op
use Rattle.grain_means.specs.Rules.{instr, enter_function}
use Rattle.grain_means.specs.Simulation.{SimulatesExactly}
use Rattle.grain_means.specs.Worlds.{Setup}
use Rattle.grain_frame.specs.Abstraction.{Moment, PerformsBound, StandsAt, Stepped, abstraction, frame_in}
use Rattle.grain_frame.specs.Waiting.{PerformsOrWaits}
use Rattle.grain_frame.specs.declared.waiting.Performed.{Performed}
use Rattle.grain_frame.specs.declared.waiting.Performed.TheVariants as performed
use Rattle.grain_vm.specs.declared.finding.Found.{Found}
use Rattle.grain_vm.specs.declared.finding.Found.TheVariants as found
use Rattle.grain_vm.specs.declared.receivers.Destination.{Destination}
use Rattle.grain_vm.specs.declared.receivers.Destination.TheVariants as destination
use Rattle.grain_vm.specs.declared.stepping.Turn.{Turn}
use Rattle.grain_vm.specs.declared.stepping.Turn.TheVariants as turn
use Rattle.grain_frame.specs.declared.runs.Progress.{Progress}

-- The instruction calls the function of this number, which exists, on the last operands. The call
-- has not begun: only the operands of the run have changed. In place of those that the instruction
-- takes there are now the arguments, one for each parameter of the function.
pub record FindsFunction {H : Type 0} (m : Setup H) (a : Moment H) (o : Op)
    (next number : ℕ) (b : Moment H) : Type 0 where
  pub exists : number < length m.program.functions
  pub goes : (g : Function) → slice_get m.program.functions number ≡ Some g →
      SimulatesExactly m
      (abstraction a.run a.counts a.host)
      (λ m place w. instr m o next (frame_in a.frame a.run place) w) false
      (abstraction b.run b.counts b.host)
      (λ m place w. enter_function m g (length g.params) (frame_in b.frame b.run place) next w)
  pub operands : (g : Function) → slice_get m.program.functions number ≡ Some g →
      length b.run.stacks.operands
      ≡ length a.run.stacks.operands - takes_of m.program o + length g.params
  pub frame : b.frame ≡ a.frame
  pub others : b.run
      ≡ record a.run { stacks = record a.run.stacks { operands = b.run.stacks.operands } }
  pub before : b.counts.before ≡ a.counts.before

-- an instruction that was done without a function, unless memory ran out
abbrev pub found_of : Result Progress OutOfMemory → Result Found OutOfMemory
found_of (Ok p) = Ok (found.Done p)
found_of (Err e) = Err e

-- what is found of an instruction that walks along no place: it is done, or it calls a function
abbrev pub Finds : {H : Type 0} → Setup H → Moment H → Op → ℕ → Result Found OutOfMemory →
    Moment H → Type 0
Finds m a o next (Ok (found.Done p)) b = PerformsBound m a o next (Ok p) b
Finds m a o next (Ok (found.Function number to)) b =
    (to ≡ next) × FindsFunction m a o next number b
Finds m a o next (Err e) b = PerformsBound m a o next (Err e) b

-- an instruction that may call a function: it leads to the next one, gives one value, and keeps the
-- cursors and the handlers
pub record IsCall (p : View) (o : Op) (next : ℕ) : Type 0 where
  pub leads : leads_of p o next ≡ next ∷ []
  pub gives : gives_of o ≡ 1
  pub holds : looping_of o ≡ looping.Keep
  pub keeps : handling_of o ≡ handling.Keep

-- the same of the instruction at which the frame stands
abbrev pub FindsHere : {H : Type 0} → Setup H → Moment H → Result Found OutOfMemory → Moment H →
    Type 0
FindsHere m a (Ok (found.Done p)) b = Stepped m a (Ok p) b
FindsHere m a (Ok (found.Function number next)) b =
    (o : Op) × StandsAt m.program a.frame a.run o next × IsCall m.program o next
    × FindsFunction m a o next number b
FindsHere m a (Err e) b = Stepped m a (Err e) b

-- the instruction on n arguments whose receiver goes to this destination
abbrev pub op_on : Destination → ℕ → Op
op_on destination.Nowhere n = op.CallFnPtrMethod n
op_on (destination.Slot slot) n = op.CallFnPtrOnLocal n slot
op_on destination.This n = op.CallFnPtrOnThis n

-- an instruction that is done or waits, unless memory ran out
abbrev pub turn_of : Result Performed OutOfMemory → Result Turn OutOfMemory
turn_of (Ok (performed.Leads p)) = Ok (turn.Done p)
turn_of (Ok performed.Waits) = Ok turn.Waits
turn_of (Err e) = Err e

-- what came of the instruction at which the frame stands, where it is neither `call` nor `call_fn_ptr`:
-- it is done, or it waits for a native, or it may run a method, and then nothing is done yet
abbrev pub StepsHere : {H : Type 0} → Setup H → Moment H → Result Turn OutOfMemory →
    Moment H → Type 0
StepsHere m a (Ok (turn.Done p)) b = Stepped m a (Ok p) b
StepsHere m a (Ok turn.Waits) b = (o : Op) × (next : ℕ)
    × (looping_of o ≡ looping.Keep) × (handling_of o ≡ handling.Keep)
    × StandsAt m.program a.frame a.run o next
    × PerformsOrWaits m a o next (Ok performed.Waits) b
StepsHere m a (Ok (turn.Chain index next)) b =
    StandsAt m.program a.frame a.run (op.Chain index) next × (b ≡ a)
StepsHere m a (Ok (turn.Receiver d count next)) b =
    StandsAt m.program a.frame a.run (op_on d count) next × (b ≡ a)
StepsHere m a (Err e) b = Stepped m a (Err e) b

-- the instruction calls nothing, walks along no place, and asks the host for no native
abbrev pub is_plain : Op → Bool
is_plain (op.Call name count) = false
is_plain (op.CallFnPtr count) = false
is_plain (op.Chain index) = false
is_plain (op.CallFnPtrMethod count) = false
is_plain (op.CallFnPtrOnLocal count slot) = false
is_plain (op.CallFnPtrOnThis count) = false
is_plain (op.CallOp name count token) = false
is_plain (op.AssignLocalOp slot name k) = false
is_plain (op.AssignThisOp k) = false
is_plain op.InterpolateAppend = false
is_plain o = true

-- what came of the instruction at which the frame stands, where only a plain one is done
abbrev pub StepsIfPlain : {H : Type 0} → Setup H → Moment H →
    Result (Option Progress) OutOfMemory → Moment H → Type 0
StepsIfPlain m a (Ok (Some p)) b = Stepped m a (Ok p) b
StepsIfPlain m a (Ok None) b =
    (b.frame ≡ a.frame) × (b.run ≡ a.run) × (b.counts ≡ a.counts) × (b.host ≡ a.host)
StepsIfPlain m a (Err e) b = Stepped m a (Err e) b
