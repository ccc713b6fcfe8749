-- The instructions of all tags, one after the other, are the instruction set.
use Rattle.std.specs.Prelude.{ℕ, zero, suc, ◌+◌, ◌≡◌, List, [], ◌∷◌, Option, Some, None}
use Rattle.std.proofs.Common.{refl}
use Rattle.grain_program.specs.declared.code.instruction_set.Op.{Op}
use Rattle.grain_program.specs.InstructionSet.{all_instructions}
use Rattle.grain_program.specs.Decoding.{by_tag, op_of_tag}

abbrev pub with_op : Option Op → List Op → List Op
with_op None os = os
with_op (Some o) os = o ∷ os

-- the instructions of n tags, from this one on
abbrev pub ops_from : ℕ → ℕ → List Op
ops_from zero tag = []
ops_from (suc n) tag = with_op (op_of_tag tag) (ops_from n (tag + 1))

pub all_by_tags : ops_from 256 0 ≡ all_instructions
unfolding op_of_tag by_tag all_instructions
all_by_tags = refl
