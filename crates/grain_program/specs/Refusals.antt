-- The names of refusals.
use Rattle.std.specs.Prelude.{ℕ, List, codes}
use Rattle.grain_program.specs.declared.verifier.refusals.Refusal.{Refusal}
use Rattle.grain_program.specs.declared.verifier.refusals.Refusal.TheVariants as refusals

-- the name of its variant
abbrev pub refusal_name : Refusal → List ℕ
refusal_name (refusals.Undecodable a) = codes "Undecodable"
refusal_name (refusals.PoolIndex a) = codes "PoolIndex"
refusal_name (refusals.JumpTarget a) = codes "JumpTarget"
refusal_name (refusals.FallsOff a) = codes "FallsOff"
refusal_name (refusals.HeightDisagrees a) = codes "HeightDisagrees"
refusal_name (refusals.TooDeep a) = codes "TooDeep"
refusal_name (refusals.Underflow a) = codes "Underflow"
refusal_name (refusals.HandlerDisagrees a) = codes "HandlerDisagrees"
refusal_name (refusals.UnderTry a) = codes "UnderTry"
refusal_name (refusals.BadChain i) = codes "BadChain"
refusal_name (refusals.Capability a) = codes "Capability"
refusal_name refusals.Memory = codes "Memory"
