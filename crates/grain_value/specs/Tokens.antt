-- The texts of operator tokens.
use Rattle.std.specs.Prelude.{ℕ, List, Option, Some, None, codes, bytes_eq, if◌then◌else◌}
use Rattle.grain_value.specs.declared.tokens.Token.{Token}
use Rattle.grain_value.specs.declared.tokens.Token.TheVariants as token

-- the token that is written so, from the operators that assign on: these, and the two names
abbrev pub token_from_assignments : List ℕ → Option Token
token_from_assignments t =
    if bytes_eq t (codes "+=") then Some token.PlusAssign
    else (if bytes_eq t (codes "-=") then Some token.MinusAssign
    else (if bytes_eq t (codes "*=") then Some token.MultiplyAssign
    else (if bytes_eq t (codes "/=") then Some token.DivideAssign
    else (if bytes_eq t (codes "%=") then Some token.ModuloAssign
    else (if bytes_eq t (codes "**=") then Some token.PowerOfAssign
    else (if bytes_eq t (codes "<<=") then Some token.LeftShiftAssign
    else (if bytes_eq t (codes ">>=") then Some token.RightShiftAssign
    else (if bytes_eq t (codes "&=") then Some token.AndAssign
    else (if bytes_eq t (codes "|=") then Some token.OrAssign
    else (if bytes_eq t (codes "^=") then Some token.XOrAssign
    else (if bytes_eq t (codes "neg") then Some token.UnaryMinus
    else (if bytes_eq t (codes "other") then Some token.Other
    else None))))))))))))

-- the same from the operators that compare on: those that compare, that make ranges and that negate a
-- truth value, and then the former
abbrev pub token_from_comparisons : List ℕ → Option Token
token_from_comparisons t =
    if bytes_eq t (codes "==") then Some token.EqualsTo
    else (if bytes_eq t (codes "!=") then Some token.NotEqualsTo
    else (if bytes_eq t (codes "<") then Some token.LessThan
    else (if bytes_eq t (codes "<=") then Some token.LessThanEqualsTo
    else (if bytes_eq t (codes ">") then Some token.GreaterThan
    else (if bytes_eq t (codes ">=") then Some token.GreaterThanEqualsTo
    else (if bytes_eq t (codes "..") then Some token.ExclusiveRange
    else (if bytes_eq t (codes "..=") then Some token.InclusiveRange
    else (if bytes_eq t (codes "!") then Some token.Bang
    else token_from_assignments t))))))))

-- the same of all: operators of arithmetic and of bits, and then the former
abbrev pub token_in : List ℕ → Option Token
token_in t =
    if bytes_eq t (codes "+") then Some token.Plus
    else (if bytes_eq t (codes "-") then Some token.Minus
    else (if bytes_eq t (codes "*") then Some token.Multiply
    else (if bytes_eq t (codes "/") then Some token.Divide
    else (if bytes_eq t (codes "%") then Some token.Modulo
    else (if bytes_eq t (codes "**") then Some token.PowerOf
    else (if bytes_eq t (codes "<<") then Some token.LeftShift
    else (if bytes_eq t (codes ">>") then Some token.RightShift
    else (if bytes_eq t (codes "&") then Some token.Ampersand
    else (if bytes_eq t (codes "|") then Some token.Pipe
    else (if bytes_eq t (codes "^") then Some token.XOr
    else token_from_comparisons t))))))))))
