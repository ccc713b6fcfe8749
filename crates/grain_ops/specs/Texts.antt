-- Texts that are joined and compared.
pub use Rattle.grain_value.specs.Sizes.{is_over}
use Rattle.std.specs.Prelude.{ℕ, List, length, ◌+◌, ◌++◌, codes, if◌then◌else◌}
use Rattle.std.specs.Ordering.{is_eq, is_ne, is_lt, is_le, is_gt, is_ge}
use Rattle.std.specs.declared.cmp.Ordering.{Ordering}
use Rattle.grain_value.specs.declared.values.Dynamic.TheVariants as dynamic
use Rattle.grain_value.specs.declared.tokens.Token.{Token}
use Rattle.grain_value.specs.declared.tokens.Token.TheVariants as token
use Rattle.grain_ops.specs.Outcomes.{Outcome, NotBuiltIn, Gave, TooLarge}

-- two texts, one after the other, under a limit of bytes
abbrev pub joined : (limit : ℕ) (first second : List ℕ) → Outcome
joined limit first second =
    if is_over limit (length first + length second) then TooLarge (codes "Length of string")
    else Gave (dynamic.Text (first ++ second))

-- a comparison of two values that are so ordered
abbrev pub compared : Token → Ordering → Outcome
compared token.EqualsTo o = Gave (dynamic.Bool (is_eq o))
compared token.NotEqualsTo o = Gave (dynamic.Bool (is_ne o))
compared token.LessThan o = Gave (dynamic.Bool (is_lt o))
compared token.LessThanEqualsTo o = Gave (dynamic.Bool (is_le o))
compared token.GreaterThan o = Gave (dynamic.Bool (is_gt o))
compared token.GreaterThanEqualsTo o = Gave (dynamic.Bool (is_ge o))
compared t o = NotBuiltIn
