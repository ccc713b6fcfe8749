-- What the calls answer: the outcome, unless memory is out.
use Rattle.std.specs.Prelude.{◌≡◌}
use Rattle.grain_value.specs.declared.values.Dynamic.{Dynamic}
use Rattle.grain_fault.specs.Places.{nowhere}
use Rattle.grain_fault.specs.declared.faults.EvalAltResult.{EvalAltResult}
use Rattle.grain_fault.specs.declared.faults.EvalAltResult.TheVariants as fault
use Rattle.grain_ops.specs.declared.answers.OpAnswer.{OpAnswer}
use Rattle.grain_ops.specs.declared.answers.OpAnswer.TheVariants as answer
use Rattle.grain_ops.specs.declared.answers.AssignAnswer.{AssignAnswer}
use Rattle.grain_ops.specs.declared.answers.AssignAnswer.TheVariants as assigned
use Rattle.grain_ops.specs.Outcomes.{Outcome, NotBuiltIn, Gave, ArithmeticFault, TooLarge}

-- the fault is this outcome's, without a position, or memory is out
abbrev pub FailsSo : EvalAltResult → Outcome → Type 0
FailsSo (fault.ErrorArithmetic s p) o = (p ≡ nowhere) × (o ≡ ArithmeticFault s)
FailsSo (fault.ErrorDataTooLarge s p) o = (p ≡ nowhere) × (o ≡ TooLarge s)
FailsSo fault.Memory o = Unit {0}
FailsSo x o = ⊥

abbrev pub Answers : OpAnswer → Outcome → Type 0
Answers answer.NotBuiltIn o = o ≡ NotBuiltIn
Answers (answer.Done v) o = o ≡ Gave v
Answers (answer.Failed x) o = FailsSo x o

-- an op-assignment writes its target where it is done, and changes nothing else
abbrev pub Assigns : AssignAnswer → Outcome → (old new : Dynamic) → Type 0
Assigns assigned.NotBuiltIn o old new = (o ≡ NotBuiltIn) × (new ≡ old)
Assigns assigned.Done o old new = o ≡ Gave new
Assigns (assigned.Failed x) o old new = FailsSo x o × (new ≡ old)

-- what an operator gave is stored in the target
abbrev pub Stores : OpAnswer → AssignAnswer → (old new : Dynamic) → Type 0
Stores answer.NotBuiltIn r old new = (r ≡ assigned.NotBuiltIn) × (new ≡ old)
Stores (answer.Done v) r old new = (r ≡ assigned.Done) × (new ≡ v)
Stores (answer.Failed x) r old new = (r ≡ assigned.Failed x) × (new ≡ old)
