-- Constants, texts, operators and entries of the starting scope.
use Rattle.std.specs.Prelude.{ℕ, Bool, true, false, List, Option, Some, None, Result, Ok, Err, codes, if◌then◌else◌}
use Rattle.grain_value.specs.declared.values.Dynamic.{Dynamic}
use Rattle.grain_value.specs.View.{value_of}
use Rattle.grain_value.specs.declared.scopes.Entry.{Entry}
use Rattle.grain_value.specs.Scopes.{new_entry}
use Rattle.grain_value.specs.declared.tokens.Token.{Token}
use Rattle.grain_value.specs.Tokens.{token_in}
use Rattle.grain_words.specs.Words.{trim_start, is_word_end, next_text}
use Rattle.grain_literals.specs.Steps.{and_then, present}
use Rattle.grain_literals.specs.Values.{made, value}
use Rattle.grain_literals.specs.Operands.{alone, after_name}
use Rattle.grain_literals.specs.declared.reasons.Reason.{Reason}
use Rattle.grain_literals.specs.declared.reasons.Reason.TheVariants.{BadValue, BadOperand}

-- a value and what follows it
abbrev pub Valued : Type 0
Valued = Result (Dynamic × List ℕ) Reason

-- the value that begins here, with at most 64 levels, and what follows it
abbrev pub literal : List ℕ → Valued
literal cs = present BadValue (made value_of (value 64 cs))

-- a value is an operand where a word ends after it
abbrev pub whole_value : Dynamic × List ℕ → Valued
whole_value x = if is_word_end x.1 then Ok x else Err BadValue

abbrev pub value_operand : List ℕ → Valued
value_operand cs = and_then (literal (trim_start cs)) whole_value

-- a text between quotes
abbrev pub text_operand : List ℕ → Result (List ℕ × List ℕ) Reason
text_operand cs = present BadValue (next_text cs)

-- after `const`: a value, alone
abbrev pub constant_of : List ℕ → Result Dynamic Reason
constant_of cs = and_then (value_operand cs) (λ a. alone a.1 a.0)

-- after `name` or `source`: a text
abbrev pub text_of : List ℕ → Result (List ℕ) Reason
text_of cs = and_then (text_operand cs) (λ a. alone a.1 a.0)

-- the token of that text
abbrev pub token_named : List ℕ → Result Token Reason
token_named t = present BadOperand (token_in t)

-- after `op`: the text of a token
abbrev pub token_of : List ℕ → Result Token Reason
token_of cs = and_then (text_operand cs) (λ a. and_then (token_named a.0) (λ k. alone a.1 k))

abbrev pub entry_with : List ℕ → Bool → Dynamic → Entry
entry_with name read_only v = new_entry name (record { value = v; read_only = read_only })

-- after `scope` and maybe `const`: a name and a value
abbrev pub entry_in : Bool → List ℕ → Result Entry Reason
entry_in read_only cs =
    and_then (text_operand cs) (λ a. and_then (constant_of a.1)
    (λ v. Ok (entry_with a.0 read_only v)))

abbrev pub entry_after : Option (List ℕ) → List ℕ → Result Entry Reason
entry_after None cs = entry_in false cs
entry_after (Some rest) cs = entry_in true rest

-- an entry with `const` is read-only
abbrev pub entry_of : List ℕ → Result Entry Reason
entry_of cs = entry_after (after_name (codes "const") cs) cs
