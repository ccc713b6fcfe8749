-- The operators that are built in.
use Rattle.std.specs.Prelude.{ℤ, int_lt, ℕ, Bool, true, false, not, ◌&&◌, ◌||◌, Option, Some, None, List, [], ◌∷◌}
use Rattle.std.specs.Char.{encode_utf8}
use Rattle.std.specs.Int.{w64, int_bit_and, int_bit_or, int_bit_xor}
use Rattle.std.specs.Cmp.Lexicographic.{slice_cmp}
use Rattle.std.specs.Ordering.{int_eq, nat_cmp}
use Rattle.grain_value.specs.declared.values.Dynamic.{Dynamic}
use Rattle.grain_value.specs.declared.values.Dynamic.TheVariants as dynamic
use Rattle.grain_value.specs.declared.values.Limits.{Limits}
use Rattle.grain_value.specs.declared.tokens.Token.{Token}
use Rattle.grain_value.specs.declared.tokens.Token.TheVariants as token
use Rattle.grain_ops.specs.declared.calculations.Calculation.TheVariants as calculation
use Rattle.grain_ops.specs.Outcomes.{Outcome, NotBuiltIn, Gave}
use Rattle.grain_ops.specs.Calculations.{calculated, negated}
use Rattle.grain_ops.specs.Shifts.{shifted_left, shifted_right}
use Rattle.grain_ops.specs.Texts.{joined, compared}

-- an operator on an integer
abbrev pub integer : Token → ℤ → Outcome
integer token.Minus x = negated x
integer token.UnaryMinus x = negated x
integer t x = NotBuiltIn

-- an operator on a truth value
abbrev pub truth : Token → Bool → Outcome
truth token.Bang a = Gave (dynamic.Bool (not a))
truth t a = NotBuiltIn

-- an operator on a value
abbrev pub unary : Token → Dynamic → Outcome
unary t (dynamic.Int x) = integer t x
unary t (dynamic.Bool a) = truth t a
unary t v = NotBuiltIn

-- an operator on two integers
abbrev pub integers : Token → ℤ → ℤ → Outcome
integers token.Plus x y = calculated calculation.Addition x y
integers token.Minus x y = calculated calculation.Subtraction x y
integers token.Multiply x y = calculated calculation.Multiplication x y
integers token.Divide x y = calculated calculation.Division x y
integers token.Modulo x y = calculated calculation.Remainder x y
integers token.PowerOf x y = calculated calculation.Power x y
integers token.LeftShift x y = Gave (dynamic.Int (shifted_left x y))
integers token.RightShift x y = Gave (dynamic.Int (shifted_right x y))
integers token.Ampersand x y = Gave (dynamic.Int (int_bit_and w64 x y))
integers token.Pipe x y = Gave (dynamic.Int (int_bit_or w64 x y))
integers token.XOr x y = Gave (dynamic.Int (int_bit_xor w64 x y))
integers token.ExclusiveRange x y = Gave (dynamic.Range x y false)
integers token.InclusiveRange x y = Gave (dynamic.Range x y true)
integers token.EqualsTo x y = Gave (dynamic.Bool (int_eq x y))
integers token.NotEqualsTo x y = Gave (dynamic.Bool (not (int_eq x y)))
integers token.LessThan x y = Gave (dynamic.Bool (int_lt x y))
integers token.LessThanEqualsTo x y = Gave (dynamic.Bool (not (int_lt y x)))
integers token.GreaterThan x y = Gave (dynamic.Bool (int_lt y x))
integers token.GreaterThanEqualsTo x y = Gave (dynamic.Bool (not (int_lt x y)))
integers t x y = NotBuiltIn

-- whether two truth values are the same
abbrev pub same : Bool → Bool → Bool
same true b = b
same false b = not b

-- an operator on two truth values
abbrev pub truths : Token → Bool → Bool → Outcome
truths token.Ampersand a b = Gave (dynamic.Bool (a && b))
truths token.Pipe a b = Gave (dynamic.Bool (a || b))
truths token.XOr a b = Gave (dynamic.Bool (not (same a b)))
truths token.EqualsTo a b = Gave (dynamic.Bool (same a b))
truths token.NotEqualsTo a b = Gave (dynamic.Bool (not (same a b)))
truths t a b = NotBuiltIn

-- an operator on two units
abbrev pub units : Token → Outcome
units token.EqualsTo = Gave (dynamic.Bool true)
units token.NotEqualsTo = Gave (dynamic.Bool false)
units t = NotBuiltIn

-- an operator on two texts: they are ordered by their bytes
abbrev pub texts : Limits → Token → List ℕ → List ℕ → Outcome
texts limits token.Plus s t = joined limits.text s t
texts limits operator s t = compared operator (slice_cmp nat_cmp s t)

-- an operator on two characters: they are ordered by their code points, and joined they are a text
abbrev pub characters : Limits → Token → ℕ → ℕ → Outcome
characters limits token.Plus c d = joined limits.text (encode_utf8 c) (encode_utf8 d)
characters limits operator c d = compared operator (nat_cmp c d)

-- an operator on a text and a character, or on a character and a text, by their bytes
abbrev pub mixed : Limits → Token → List ℕ → List ℕ → Outcome
mixed limits token.Plus s t = joined limits.text s t
mixed limits operator s t = NotBuiltIn

-- an operator on two values
abbrev pub binary : Limits → Token → Dynamic → Dynamic → Outcome
binary limits t (dynamic.Int x) (dynamic.Int y) = integers t x y
binary limits t (dynamic.Bool a) (dynamic.Bool b) = truths t a b
binary limits t dynamic.Unit dynamic.Unit = units t
binary limits t (dynamic.Char c) (dynamic.Char d) = characters limits t c d
binary limits t (dynamic.Text a) (dynamic.Text b) = texts limits t a b
binary limits t (dynamic.Text a) (dynamic.Char d) = mixed limits t a (encode_utf8 d)
binary limits t (dynamic.Char c) (dynamic.Text b) = mixed limits t (encode_utf8 c) b
binary limits t v w = NotBuiltIn

-- the operator that an op-assignment does
abbrev pub operator_of : Token → Option Token
operator_of token.PlusAssign = Some token.Plus
operator_of token.MinusAssign = Some token.Minus
operator_of token.MultiplyAssign = Some token.Multiply
operator_of token.DivideAssign = Some token.Divide
operator_of token.ModuloAssign = Some token.Modulo
operator_of token.PowerOfAssign = Some token.PowerOf
operator_of token.LeftShiftAssign = Some token.LeftShift
operator_of token.RightShiftAssign = Some token.RightShift
operator_of token.AndAssign = Some token.Ampersand
operator_of token.OrAssign = Some token.Pipe
operator_of token.XOrAssign = Some token.XOr
operator_of t = None

-- an op-assignment by this operator, if any: each of the eleven gives the target's own kind, but
-- with a character `+` gives a text
abbrev pub assigned_by : Limits → Option Token → Dynamic → Dynamic → Outcome
assigned_by limits None target value = NotBuiltIn
assigned_by limits (Some operator) (dynamic.Char c) value = NotBuiltIn
assigned_by limits (Some operator) target value = binary limits operator target value

-- an op-assignment of a value to a target
abbrev pub assignment : Limits → Token → Dynamic → Dynamic → Outcome
assignment limits t target value = assigned_by limits (operator_of t) target value

-- an operator on its arguments
abbrev pub operation : Limits → Token → List Dynamic → Outcome
operation limits t [] = NotBuiltIn
operation limits t (x ∷ []) = unary t x
operation limits t (x ∷ y ∷ []) = binary limits t x y
operation limits t (x ∷ y ∷ z ∷ zs) = NotBuiltIn
