-- The reader finds each instruction by its word, as it is spelled in the code: it goes over the tags
-- from the first one on.
use Rattle.std.proofs.Common.{◌≡◌, ℕ, suc, ◌+◌, ◌-◌, ◌<◌, true, false, cond, bytes_eq, List, Option, Some, None, option_map, refl, ap, ◌∙◌, arith}
use Rattle.grain_program.specs.declared.code.instruction_set.Op.{Op}
use Rattle.grain_program.specs.declared.code.instruction_set.Op.TheVariants as op
use Rattle.grain_program.specs.InstructionSet.{all_instructions}
use Rattle.grain_program.specs.Decoding.{op_of_tag}
use Rattle.grain_program.specs.laws.Tags.{with_op, ops_from, all_by_tags}
use Rattle.grain_listing.specs.Instructions.{word_of, encoding_of, op_among, op_named}

-- what has the word, of the instructions of this tag and of those after it
abbrev pub named_from : ℕ → List ℕ → Option Op
named_from tag w = op_among (ops_from (256 - tag) tag) w

pub from_all : (w : List ℕ) → named_from 0 w ≡ op_named w
unfolding op_named
from_all w = ap (λ os. op_among os w) all_by_tags

one_more : (tag : ℕ) → tag < 256 →
    ops_from (256 - tag) tag ≡ with_op (op_of_tag tag) (ops_from (256 - (tag + 1)) (tag + 1))
one_more tag lt =
    let left : 256 - tag ≡ suc (256 - (tag + 1)) = omega (arith, lt) in
    ap (λ n. ops_from n tag) left

at_tag : (tag : ℕ) (w : List ℕ) (o : Option Op) → tag < 256 → op_of_tag tag ≡ o →
    named_from tag w ≡ op_among (with_op o (ops_from (256 - (tag + 1)) (tag + 1))) w
at_tag tag w o lt is =
    ap (λ os. op_among os w) (one_more tag lt) ∙
    ap (λ x. op_among (with_op x (ops_from (256 - (tag + 1)) (tag + 1))) w) is

-- the instruction of the tag has the word
pub found_here : (tag : ℕ) (w : List ℕ) (o : Op) → tag < 256 → op_of_tag tag ≡ Some o →
    bytes_eq w (word_of o) ≡ true → named_from tag w ≡ Some o
found_here tag w o lt is same =
    at_tag tag w (Some o) lt is ∙
    ap (λ b. cond b (Some o) (named_from (tag + 1) w)) same

-- it has another
pub other_here : (tag : ℕ) (w : List ℕ) (o : Op) → tag < 256 → op_of_tag tag ≡ Some o →
    bytes_eq w (word_of o) ≡ false → named_from tag w ≡ named_from (tag + 1) w
other_here tag w o lt is other =
    at_tag tag w (Some o) lt is ∙
    ap (λ b. cond b (Some o) (named_from (tag + 1) w)) other

-- no instruction has the tag
pub none_here : (tag : ℕ) (w : List ℕ) → tag < 256 → op_of_tag tag ≡ None →
    named_from tag w ≡ named_from (tag + 1) w
none_here tag w lt is = at_tag tag w None lt is

pub in_table : (o : Op) → option_map encoding_of (op_named (word_of o)) ≡ Some (encoding_of o)
unfolding op_named all_instructions
in_table op.Unit = refl
in_table _ = refl
