-- What came of an instruction that the loop tried first.
use Rattle.std.specs.Prelude.{◌≡◌, ◌≤◌, ◌∷◌, [], ℕ, Bool, true, false, Result, Ok, Some, length, cond, nat_lt}
use Rattle.grain_value.specs.Cells.{flat}
use Rattle.grain_value.specs.Looking.{truth_of}
use Rattle.grain_value.specs.Operands.{below, top}
use Rattle.grain_value.specs.declared.memory.OutOfMemory.{OutOfMemory}
use Rattle.grain_value.specs.declared.values.Dynamic.{Dynamic}
use Rattle.grain_program.specs.Decoding.{op_at}
use Rattle.grain_program.specs.declared.code.instruction_set.Op.{Op}
use Rattle.grain_program.specs.declared.code.instruction_set.Op.TheVariants as op
use Rattle.grain_program.specs.View.{View}
use Rattle.grain_means.specs.Rules.{agrees, jump_if, jumped, stepped}
use Rattle.grain_means.specs.Worlds.{Setup}
use Rattle.grain_global.specs.StepsView.{StepsView}
use Rattle.grain_frame.specs.declared.activations.Activation.{Activation}
use Rattle.grain_frame.specs.declared.runs.Run.{Run}
use Rattle.grain_frame.specs.declared.runs.Progress.{Progress}
use Rattle.grain_frame.specs.declared.runs.Progress.TheVariants as progress
use Rattle.grain_frame.specs.declared.attempts.Attempt.{Attempt}
use Rattle.grain_frame.specs.declared.attempts.Attempt.TheVariants as attempt
use Rattle.grain_frame.specs.declared.attempts.Branched.{Branched}
use Rattle.grain_frame.specs.declared.attempts.Branched.TheVariants as branched
use Rattle.grain_frame.specs.declared.attempts.Pending.{Pending}
use Rattle.grain_frame.specs.declared.attempts.Pending.TheVariants as pending
use Rattle.grain_frame.specs.Abstraction.{Implements, IsNoCall, Moment, Stepped, StandsAt, frame_in, moment}

-- what holds if a try did what it tried, and what holds if it did not
abbrev pub OnTrue : Bool → Type 0 → Type 0
OnTrue true T = T
OnTrue false T = Unit {0}

abbrev pub OnFalse : Bool → Type 0 → Type 0
OnFalse true T = Unit {0}
OnFalse false T = T

-- a try that did nothing changed nothing
abbrev pub Unchanged : {H : Type 0} → Activation → Run H → StepsView → Activation → Run H →
    StepsView → Type 0
Unchanged f s n f' s' n' = (s' ≡ s) × (f' ≡ f) × (n' ≡ n)

-- the instruction at which the frame stands is neither `call` nor `call_fn_ptr`
abbrev pub CallsNothing : View → Activation → Type 0
CallsNothing program f =
    (o : Op) (width : ℕ) → op_at program.code f.address ≡ Some (o, width) → IsNoCall o

-- what is known of an instruction that is still to be done
abbrev pub IsPending : {H : Type 0} → View → Activation → Run H → Pending → Type 0
IsPending program f s (pending.Call name count next) =
    StandsAt program f s (op.Call name count) next
IsPending program f s (pending.Pointer count next) =
    StandsAt program f s (op.CallFnPtr count) next
IsPending program f s pending.Other = CallsNothing program f

-- what a jump to this address does
abbrev pub JumpsFrom : {H : Type 0} → Setup H → Activation → Run H → StepsView → ℕ →
    Result Progress OutOfMemory → H → Moment H → Type 0
JumpsFrom m f s n target r host b = Implements m (moment f s n host)
    (λ k place w. jumped k (frame_in f s place)
    (stepped (frame_in f s place) target s.stacks.operands) w) (target ∷ []) 0 0
    s.stacks.handlers r b

-- What is left to do of an instruction is a jump to this address: what the jump does from the moment that
-- was reached is what the instruction does. There the scope is no shorter than the frame's base.
pub record IsButJump {H : Type 0} (m : Setup H) (f : Activation) (s : Run H) (n : StepsView)
    (f' : Activation) (s' : Run H) (n' : StepsView) (target : ℕ) : Type 0 where
  pub inside : f'.base ≤ length s'.scope
  pub leads : (host : H) (r : Result Progress OutOfMemory) (b : Moment H) →
      JumpsFrom m f' s' n' target r host b → Stepped m (moment f s n host) r b

-- What came of an instruction that the loop tried first: it is done, and the frame goes on or is over; a
-- jump is left to do; or nothing was done.
abbrev pub Attempted : {H : Type 0} → Setup H → Activation → Run H → StepsView → Activation →
    Run H → StepsView → Attempt → Type 0
Attempted {H = H} m f s n f' s' n' attempt.Done =
    (host : H) → Stepped m (moment f s n host) (Ok progress.Continues) (moment f' s' n' host)
Attempted {H = H} m f s n f' s' n' attempt.Returned =
    (host : H) → Stepped m (moment f s n host) (Ok progress.Returned) (moment f' s' n' host)
Attempted m f s n f' s' n' (attempt.Jump target) = IsButJump m f s n f' s' n' target
Attempted m f s n f' s' n' (attempt.Pending p) =
    Unchanged f s n f' s' n' × IsPending m.program f s p

-- the last operand is gone
abbrev pub without_top : {H : Type 0} → Run H → Run H
without_top s = record s { stacks = record s.stacks { operands = below s.stacks.operands } }

-- the last operand, as it is read, is the truth value that is wanted
abbrev pub IsWanted : {H : Type 0} → Run H → Bool → Type 0
IsWanted s wanted = (value : Dynamic) × (truth : Bool)
    × (flat s.cells (top s.stacks.operands).value ≡ Some value) × (truth_of value ≡ Some truth)
    × (agrees wanted truth ≡ true)

-- What came of a branch on a truth value that was tried: it is done; or the value is taken, is the wanted
-- one, and the jump to the target is left to do; or nothing was done.
abbrev pub BranchTried : {H : Type 0} → Setup H → Activation → Run H → StepsView → Bool →
    (target next : ℕ) → Activation → Run H → StepsView → Branched → Type 0
BranchTried {H = H} m f s n wanted target next f' s' n' branched.Done =
    (host : H) → Implements m (moment f s n host)
    (λ k place w. jump_if k wanted target next (frame_in f s place) w)
    (cond (nat_lt target next) (target ∷ next ∷ []) (next ∷ target ∷ [])) 1 0 s.stacks.handlers
    (Ok progress.Continues) (moment f' s' n' host)
BranchTried m f s n wanted target next f' s' n' branched.Jumps =
    (s' ≡ without_top s) × (f' ≡ f) × (n' ≡ n) × IsWanted s wanted
BranchTried m f s n wanted target next f' s' n' branched.Undone = Unchanged f s n f' s' n'

-- what came of an instruction, by whether it was done
abbrev pub attempt_of : Bool → Attempt
attempt_of true = attempt.Done
attempt_of false = attempt.Pending pending.Other

-- what came of it, by what came of the branch
abbrev pub attempt_branched : Branched → ℕ → Attempt
attempt_branched branched.Done target = attempt.Done
attempt_branched branched.Jumps target = attempt.Jump target
attempt_branched branched.Undone target = attempt.Pending pending.Other
