-- What the built-in operators give names no cell.
use Rattle.std.proofs.Common.{◌≡◌, ◌+◌, ℤ, ℕ, Bool, true, false, List, [], ◌∷◌, ◌++◌, length, Option, Some, None, if◌then◌else◌, refl}
use Rattle.std.specs.Prelude.{codes, neg_ℤ}
use Rattle.std.specs.Char.{encode_utf8}
use Rattle.std.specs.Cmp.Lexicographic.{slice_cmp}
use Rattle.std.specs.Ordering.{nat_cmp}
use Rattle.std.specs.declared.cmp.Ordering.{Ordering}
use Rattle.grain_value.specs.Cells.{cell_bound}
use Rattle.grain_value.specs.Looking.{cell_of}
use Rattle.grain_value.specs.View.{tree}
use Rattle.grain_value.specs.declared.tokens.Token.{Token}
use Rattle.grain_value.specs.declared.tokens.Token.TheVariants as token
use Rattle.grain_value.specs.declared.values.Dynamic.{Dynamic}
use Rattle.grain_value.specs.declared.values.Dynamic.TheVariants as dynamic
use Rattle.grain_value.specs.declared.values.Limits.{Limits}
use Rattle.grain_ops.specs.declared.calculations.Calculation.{Calculation}
use Rattle.grain_ops.specs.declared.calculations.Calculation.TheVariants as calculation
use Rattle.grain_ops.specs.Calculations.{calculated, exact, fault_text, fits64, has_result, negated}
use Rattle.grain_ops.specs.Operators.{assigned_by, assignment, binary, characters, integer, integers, mixed, operation, operator_of, texts, truth, truths, unary, units}
use Rattle.grain_ops.specs.Outcomes.{Outcome, NotBuiltIn, Gave, ArithmeticFault, TooLarge}
use Rattle.grain_ops.specs.Texts.{compared, is_over, joined}
use Rattle.grain_global.specs.declared.engines.Engine.{Engine}
use Rattle.grain_program.specs.View.{View, token_of}
use Rattle.grain_program.specs.declared.code.parts.AssignOp.{AssignOp}
use Rattle.grain_value.specs.Operands.{values_in}
use Rattle.grain_value.specs.declared.values.Held.{Held}
use Rattle.grain_means.specs.Rules.{if_fast, op_assigned, operated}

abbrev pub NamesNone : Outcome → Type 0
NamesNone NotBuiltIn = Unit {0}
NamesNone (Gave v) = cell_bound (tree v) ≡ 0
NamesNone (ArithmeticFault s) = Unit {0}
NamesNone (TooLarge s) = Unit {0}

either : (b : Bool) (x y : Outcome) → NamesNone x → NamesNone y → NamesNone (if b then x else y)
either true x y p q = p
either false x y p q = q

calculated_plain : (c : Calculation) (x y : ℤ) → NamesNone (calculated c x y)
calculated_plain c x y =
    either (has_result c x y) (Gave (dynamic.Int (exact c x y)))
    (ArithmeticFault (fault_text c x y)) refl tt

negated_plain : (x : ℤ) → NamesNone (negated x)
negated_plain x =
    either (fits64 (neg_ℤ x)) (Gave (dynamic.Int (neg_ℤ x)))
    (ArithmeticFault (codes "integer overflow")) refl tt

joined_plain : (limit : ℕ) (s t : List ℕ) → NamesNone (joined limit s t)
joined_plain limit s t =
    either (is_over limit (length s + length t)) (TooLarge (codes "Length of string"))
    (Gave (dynamic.Text (s ++ t))) tt refl

compared_plain : (t : Token) (o : Ordering) → NamesNone (compared t o)
compared_plain token.EqualsTo o = refl
compared_plain token.NotEqualsTo o = refl
compared_plain token.LessThan o = refl
compared_plain token.LessThanEqualsTo o = refl
compared_plain token.GreaterThan o = refl
compared_plain token.GreaterThanEqualsTo o = refl
compared_plain _ o = tt

integer_plain : (t : Token) (x : ℤ) → NamesNone (integer t x)
integer_plain token.Minus x = negated_plain x
integer_plain token.UnaryMinus x = negated_plain x
integer_plain _ x = tt

truth_plain : (t : Token) (a : Bool) → NamesNone (truth t a)
truth_plain token.Bang a = refl
truth_plain _ a = tt

unary_plain : (t : Token) (v : Dynamic) → NamesNone (unary t v)
unary_plain t (dynamic.Int x) = integer_plain t x
unary_plain t (dynamic.Bool a) = truth_plain t a
unary_plain t _ = tt

integers_plain : (t : Token) (x y : ℤ) → NamesNone (integers t x y)
integers_plain token.Plus x y = calculated_plain calculation.Addition x y
integers_plain token.Minus x y = calculated_plain calculation.Subtraction x y
integers_plain token.Multiply x y = calculated_plain calculation.Multiplication x y
integers_plain token.Divide x y = calculated_plain calculation.Division x y
integers_plain token.Modulo x y = calculated_plain calculation.Remainder x y
integers_plain token.PowerOf x y = calculated_plain calculation.Power x y
integers_plain token.LeftShift x y = refl
integers_plain token.RightShift x y = refl
integers_plain token.Ampersand x y = refl
integers_plain token.Pipe x y = refl
integers_plain token.XOr x y = refl
integers_plain token.ExclusiveRange x y = refl
integers_plain token.InclusiveRange x y = refl
integers_plain token.EqualsTo x y = refl
integers_plain token.NotEqualsTo x y = refl
integers_plain token.LessThan x y = refl
integers_plain token.LessThanEqualsTo x y = refl
integers_plain token.GreaterThan x y = refl
integers_plain token.GreaterThanEqualsTo x y = refl
integers_plain _ x y = tt

truths_plain : (t : Token) (a b : Bool) → NamesNone (truths t a b)
truths_plain token.Ampersand a b = refl
truths_plain token.Pipe a b = refl
truths_plain token.XOr a b = refl
truths_plain token.EqualsTo a b = refl
truths_plain token.NotEqualsTo a b = refl
truths_plain _ a b = tt

units_plain : (t : Token) → NamesNone (units t)
units_plain token.EqualsTo = refl
units_plain token.NotEqualsTo = refl
units_plain _ = tt

texts_plain : (limits : Limits) (t : Token) (a b : List ℕ) → NamesNone (texts limits t a b)
texts_plain limits token.Plus a b = joined_plain limits.text a b
texts_plain limits t a b = compared_plain t (slice_cmp nat_cmp a b)

characters_plain : (limits : Limits) (t : Token) (c d : ℕ) → NamesNone (characters limits t c d)
characters_plain limits token.Plus c d =
    joined_plain limits.text (encode_utf8 c) (encode_utf8 d)
characters_plain limits t c d = compared_plain t (nat_cmp c d)

mixed_plain : (limits : Limits) (t : Token) (a b : List ℕ) → NamesNone (mixed limits t a b)
mixed_plain limits token.Plus a b = joined_plain limits.text a b
mixed_plain limits _ a b = tt

binary_plain : (limits : Limits) (t : Token) (v w : Dynamic) → NamesNone (binary limits t v w)
binary_plain limits t (dynamic.Int x) (dynamic.Int y) = integers_plain t x y
binary_plain limits t (dynamic.Bool a) (dynamic.Bool b) = truths_plain t a b
binary_plain limits t dynamic.Unit dynamic.Unit = units_plain t
binary_plain limits t (dynamic.Char c) (dynamic.Char d) = characters_plain limits t c d
binary_plain limits t (dynamic.Text a) (dynamic.Text b) = texts_plain limits t a b
binary_plain limits t (dynamic.Text a) (dynamic.Char d) = mixed_plain limits t a (encode_utf8 d)
binary_plain limits t (dynamic.Char c) (dynamic.Text b) = mixed_plain limits t (encode_utf8 c) b
binary_plain limits t _ _ = tt

assigned_plain : (limits : Limits) (o : Option Token) (u v : Dynamic) →
    NamesNone (assigned_by limits o u v)
assigned_plain limits None u v = tt
assigned_plain limits (Some t) (dynamic.Char c) v = tt
assigned_plain limits (Some t) u v = binary_plain limits t u v

operation_plain : (limits : Limits) (t : Token) (vs : List Dynamic) →
    NamesNone (operation limits t vs)
operation_plain limits t [] = tt
operation_plain limits t (x ∷ []) = unary_plain t x
operation_plain limits t (x ∷ y ∷ []) = binary_plain limits t x y
operation_plain limits t (x ∷ y ∷ z ∷ zs) = tt

if_fast_plain : (fast : Bool) (o : Outcome) → NamesNone o → NamesNone (if_fast fast o)
if_fast_plain fast o p = either fast o NotBuiltIn p tt

pub operated_plain : (p : View) (engine : Engine) (t : ℕ) (args : List Held) →
    NamesNone (operated p engine t args)
operated_plain p engine t args =
    if_fast_plain engine.fast_operators
    (operation engine.limits (token_of p t) (values_in args))
    (operation_plain engine.limits (token_of p t) (values_in args))

pub op_assigned_plain : (engine : Engine) (a : AssignOp) (u v : Dynamic) →
    NamesNone (op_assigned engine a u v)
op_assigned_plain engine a u v =
    if_fast_plain engine.fast_operators (assignment engine.limits a.op_assign u v)
    (assigned_plain engine.limits (operator_of a.op_assign) u v)

-- what names no cell is none
pub no_cell : (v : Dynamic) → cell_bound (tree v) ≡ 0 → cell_of v ≡ None
no_cell dynamic.Unit e = refl
no_cell (dynamic.Bool b) e = refl
no_cell (dynamic.Int n) e = refl
no_cell (dynamic.Char c) e = refl
no_cell (dynamic.Text t) e = refl
no_cell (dynamic.Array ts) e = refl
no_cell (dynamic.Blob s) e = refl
no_cell (dynamic.Map es) e = refl
no_cell (dynamic.Pointer p) e = refl
no_cell (dynamic.Range from to inclusive) e = refl
no_cell (dynamic.Foreign kind number) e = refl
no_cell (dynamic.Cell number) e = absurd cc
