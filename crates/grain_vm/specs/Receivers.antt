-- How the code calls a pointer with a receiver: what it finds to call, what it takes from the operands,
-- and where the receiver is during the call.
use Rattle.std.specs.Prelude.{◌≡◌, ◌⊎◌, ◌+◌, ◌||◌, ℕ, zero, suc, List, [], ◌∷◌, ◌++◌, Bool, Option, Some, None, Result, Ok, Err, length, is_some, codes, slice_get}
use Rattle.grain_value.specs.Tree.{Tree}
use Rattle.grain_value.specs.Cells.{content, flat, idle}
use Rattle.grain_value.specs.Looking.{cell_of, pointer_of}
use Rattle.grain_value.specs.Operands.{arguments, under, values_in}
use Rattle.grain_value.specs.Writing.{type_name_of}
use Rattle.grain_value.specs.declared.memory.OutOfMemory.{OutOfMemory}
use Rattle.grain_value.specs.declared.scopes.Entry.{Entry}
use Rattle.grain_value.specs.declared.stores.Cell.{Cell}
use Rattle.grain_value.specs.declared.values.Dynamic.{Dynamic}
use Rattle.grain_value.specs.declared.values.FnPtr.{FnPtr}
use Rattle.grain_value.specs.declared.values.Held.{Held}
use Rattle.grain_fault.specs.Problems.{Problem, Plain, DataRace, MismatchDataType}
use Rattle.grain_fault.specs.declared.faults.EvalAltResult.{EvalAltResult}
use Rattle.grain_fault.specs.declared.places.Position.{Position}
use Rattle.grain_program.specs.Lookups.{function_by_text}
use Rattle.grain_program.specs.View.{View, position_of}
use Rattle.grain_program.specs.declared.code.functions.Function.{Function}
use Rattle.grain_global.specs.StepsView.{StepsView}
use Rattle.grain_means.specs.Worlds.{Act, Answer, Frame, Place, Setup, World}
use Rattle.grain_means.specs.Rules.{flat_all, native_on_read, only_read, operand_under, position, race_text, receiver_called, trees_in, without}
use Rattle.grain_means.specs.Rules as rules
use Rattle.grain_means.specs.Rules.Chains.{new_root}
use Rattle.grain_means.specs.Rules.InWorld.{function_called}
use Rattle.grain_means.specs.Simulation.{Simulates}
use Rattle.grain_chain.specs.Walking.{is_want, outcome_of}
use Rattle.grain_chain.specs.declared.requests.Request.{Request}
use Rattle.grain_chain.specs.declared.requests.What.TheVariants as what
use Rattle.grain_frame.specs.Abstraction.{ImplementsBound, Moment, Raises, frame_in, marked_once, this_of}
use Rattle.grain_frame.specs.Receivers.{with_newest}
use Rattle.grain_frame.specs.declared.native_calls.Arguments.{Arguments}
use Rattle.grain_frame.specs.declared.runs.Progress.{Progress}
use Rattle.grain_frame.specs.declared.runs.Progress.TheVariants as progress
use Rattle.grain_frame.specs.declared.runs.Run.{Run}
use Rattle.grain_vm.specs.Driving.{DescribesAfter, beside, name_in}
use Rattle.grain_vm.specs.Methods.{HasFunction, given_to}
use Rattle.grain_vm.specs.declared.methods.Needed.{Needed}
use Rattle.grain_vm.specs.declared.methods.Needed.TheVariants as needed
use Rattle.grain_vm.specs.declared.receivers.Callee.{Callee}
use Rattle.grain_vm.specs.declared.receivers.Callee.TheVariants as callee
use Rattle.grain_vm.specs.declared.receivers.Destination.{Destination}
use Rattle.grain_vm.specs.declared.receivers.Destination.TheVariants as destination

-- ---- where a receiver goes

abbrev pub destination_in : Destination → rules.Destination
destination_in destination.Nowhere = rules.Nowhere
destination_in (destination.Slot slot) = rules.ToSlot slot
destination_in destination.This = rules.ToThis

-- a receiver that goes nowhere: a cell, or one that can only be read
abbrev pub goes_nowhere : Held → Bool
goes_nowhere h = is_some (cell_of h.value) || h.read_only

-- the `this` of the frame, if it has one, holds the value
abbrev pub puts_so : {H : Type 0} → Dynamic → Run H → Run H → Option Held → Type 0
puts_so v s s' None = s' ≡ s
puts_so v s s' (Some h) = s' ≡ record s { receivers = with_newest (record h { value = v }) s.receivers }

abbrev pub PutInThis : {H : Type 0} → Dynamic → Run H → Run H → Type 0
PutInThis v s s' = puts_so v s s' (this_of s)

-- ---- what is called

-- what an instruction calls that may have a receiver: its target, which is this pointer; or its first
-- argument, which is this pointer and has n arguments after it; or nothing, for this fault
pub data Called : Type 0 where
  ByTarget : FnPtr → Called
  ByFirst : FnPtr → ℕ → Called
  Refuses : Problem → Called

-- what is called, if the first argument, which has n arguments after it, is read as this
abbrev pub first_pointer : View → ℕ → ℕ → Dynamic → Option FnPtr → Called
first_pointer p address n v None =
    Refuses (Plain (MismatchDataType (codes "Fn") (type_name_of v)) (position_of p address))
first_pointer p address n v (Some f) = ByFirst f n

abbrev pub first_in : View → ℕ → ℕ → Option Dynamic → Called
first_in p address n None = Refuses (Plain (DataRace (race_text [])) (position_of p address))
first_in p address n (Some v) = first_pointer p address n v (pointer_of v)

-- what is called on n arguments, if the target is read as this
abbrev pub target_pointer : View → List Cell → List Held → ℕ → ℕ → Dynamic → Option FnPtr → Called
target_pointer p cells ops address n v (Some f) = ByTarget f
target_pointer p cells ops address zero v None =
    Refuses (Plain (MismatchDataType (codes "Fn") (type_name_of v)) (position_of p address))
target_pointer p cells ops address (suc n) v None =
    first_in p address n (flat cells (operand_under n ops).value)

abbrev pub target_in : View → List Cell → List Held → ℕ → ℕ → Option Dynamic → Called
target_in p cells ops address n None =
    Refuses (Plain (DataRace (race_text [])) (position_of p address))
target_in p cells ops address n (Some v) = target_pointer p cells ops address n v (pointer_of v)

-- what an instruction at an address calls on n arguments
abbrev pub called : View → List Cell → List Held → ℕ → ℕ → Called
called p cells ops address n =
    target_in p cells ops address n (flat cells (operand_under n ops).value)

-- the code found this; if it is a pointer, or if memory ran out, nothing has changed
abbrev pub FindsCallee : {H : Type 0} → Run H → StepsView → Called → Result Callee OutOfMemory →
    Run H → StepsView → Type 0
FindsCallee s n (ByTarget f) (Ok callee.Target) s' n' = (s' ≡ s) × (n' ≡ n)
FindsCallee s n (ByFirst f k) (Ok (callee.First g)) s' n' = (g ≡ f) × (s' ≡ s) × (n' ≡ n)
FindsCallee s n (ByFirst f k) (Err e) s' n' = (s' ≡ s) × (n' ≡ n)
FindsCallee s n (Refuses x) (Ok callee.Refused) s' n' = Raises s n x (Ok progress.Failed) s' n'
FindsCallee s n (Refuses x) (Err e) s' n' = Raises s n x (Err e) s' n'
FindsCallee s n c r s' n' = ⊥

-- ---- what is taken

-- the receiver, which has the pointer and n arguments above it; if it is a cell whose content can only be
-- read, it can only be read itself
abbrev pub receiver_in : {H : Type 0} → Run H → ℕ → Held
receiver_in s n =
    let h = operand_under (n + 1) s.stacks.operands in
    record h { read_only = only_read s.cells h }

-- A pointer of this name, on these arguments and with this receiver, needs a call at the position: that of
-- a function of the program, or, if there is none, that of a native.
abbrev pub NeedsOn : View → Position → List ℕ → List Tree → Held → Needed → Type 0
NeedsOn p q name ts h (needed.Function c) =
    HasFunction p c × (function_by_text p name (length ts) ≡ Some c.number) × (c.pos ≡ q)
    × (c.receiver ≡ Some h) × (c.arguments ≡ ts)
NeedsOn p q name ts h (needed.Native r) =
    (function_by_text p name (length ts) ≡ None) × (r.what ≡ what.Native name) × (r.pos ≡ q)
    × (r.receiver ≡ Some h) × (r.arguments ≡ ts)

-- The call with a receiver of this pointer, which has n arguments after it, was taken from the operands,
-- at a mark; or memory is out, and nothing has changed.
abbrev pub TakesCall : {H : Type 0} → View → Run H → StepsView → ℕ → FnPtr → ℕ →
    Result Needed OutOfMemory → Run H → StepsView → Type 0
TakesCall p s n address f k (Ok call) s' n' =
    NeedsOn p (position_of p address) f.name (f.curry ++ trees_in (arguments k s.stacks.operands))
    (receiver_in s k) call
    × (s' ≡ record s {
      stacks = record s.stacks { operands = under (k + 1 + 1) s.stacks.operands };
    })
    × (n' ≡ marked_once n)
TakesCall p s n address f k (Err e) s' n' = (s' ≡ s) × (n' ≡ n)

-- ---- the call

-- what follows from the answer of a call, by the number of the roots before its receiver
abbrev pub HearsRoot : Type 0 → Type 0
HearsRoot S = Setup S → Option Place → ℕ → Answer → World S → Act S

-- A call on a receiver, which is the root at a place, with what follows from its answer.
abbrev pub CallOn : Type 0 → Type 0
CallOn S = Setup S → Option Place → (Answer → World S → Act S) → Place → World S → Act S

-- A call was done on a receiver that is added to the roots, with this outcome, and this is left of the
-- receiver. So it is in any scope and with any `this` of the frame.
abbrev pub CallsOn : {H : Type 0} → Setup H → CallOn H → Held → Run H → StepsView → H →
    Result Dynamic EvalAltResult → Held → Run H → StepsView → H → Type 0
CallsOn {H = H} m call h s n host o left s' n' host' =
    (scope : List Entry) (this : Option Held) (heard : HearsRoot H) →
    Simulates m (beside scope this s n host)
    (λ m place w. call m place (heard m place (length w.roots)) (new_root w.roots)
    (record w { roots = w.roots ++ h ∷ [] }))
    (is_want o) (beside scope this s' n' host')
    (λ m place w. heard m place (length w.roots) (outcome_of o)
    (record w { roots = w.roots ++ left ∷ [] }))

-- a function is called on a receiver
abbrev pub function_call : {S : Type 0} → Function → Position → List Held → CallOn S
function_call g q args m place heard p w = function_called m q g args heard (Some p) w

-- a native is called on a receiver, in a frame
abbrev pub native_call : {S : Type 0} → (Option Place → Frame) → List ℕ → List Held → CallOn S
native_call f name args m place heard p w =
    native_on_read m (flat_all w.cells args) name (f place) heard p w

-- the request for a native with a receiver was done, as it is in any frame at its position
abbrev pub NativeCalled : {H : Type 0} → Setup H → Request → Run H → StepsView → H →
    Result Dynamic EvalAltResult → Option Held → Run H → StepsView → H → Type 0
NativeCalled m r s n host o left s' n' host' =
    (h left' : Held) (f : Option Place → Frame) → r.receiver ≡ Some h → left ≡ Some left' →
    ((place : Option Place) → position m (f place) ≡ r.pos) →
    CallsOn m (native_call f (name_in r.what) (given_to r.arguments)) h s n host o left' s' n' host'

-- The description has what the cell of a number holds, with a flag, and after it these values as they are
-- read; or there is none, because the cell or one of these is lent, or the cell is not there.
abbrev pub ReadsForCell : List Cell → ℕ → Bool → List Tree → Option Arguments → Type 0
ReadsForCell cells n flag ts None =
    (content (slice_get cells n) ≡ None) ⊎ (flat_all cells (given_to ts) ≡ None)
ReadsForCell cells n flag ts (Some a) = (h : Held) × (slice_get cells n ≡ Some (idle h))
    × ((args : List Held) × (flat_all cells (given_to ts) ≡ Some args)
    × DescribesAfter (Some (record h { read_only = flag })) a args)

-- ---- the instruction

-- A pointer, which is the first argument and has n arguments after it, was called with its receiver.
abbrev pub CalledOn : {H : Type 0} → Setup H → Moment H → Destination → FnPtr → ℕ → ℕ →
    Result Progress OutOfMemory → Moment H → Type 0
CalledOn m a d r n next result b =
    ImplementsBound m a
    (λ m place w. receiver_called m (destination_in d) r
    (values_in (arguments n a.run.stacks.operands)) (operand_under (n + 1) a.run.stacks.operands) next
    (without (n + 1 + 1) (frame_in a.frame a.run place)) w)
    (next ∷ []) (n + 1 + 1) 1 a.run.stacks.handlers result b
