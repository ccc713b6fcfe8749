-- Lines with values are read as they are written.
use Rattle.std.proofs.Common.{◌≡◌, ℕ, Bool, true, false, List, [], ◌∷◌, ◌++◌, Result, Ok, Some, codes, refl, sym, ap, ◌∙◌, append-nil}
use Rattle.std.specs.Str.{chars, IsUtf8}
use Rattle.grain_value.specs.Quoting.{quoted_text}
use Rattle.grain_value.specs.View.{value_of, tree}
use Rattle.grain_value.specs.laws.Same.{value_of-tree}
use Rattle.grain_value.specs.Writing.{quoted}
use Rattle.grain_value.specs.declared.scopes.Entry.{Entry}
use Rattle.grain_value.specs.declared.values.Dynamic.{Dynamic}
use Rattle.grain_words.specs.Spelled.{quoted_characters}
use Rattle.grain_words.specs.Words.{next_text, is_word_end, trim_start}
use Rattle.grain_literals.specs.Listed.{IsListed}
use Rattle.grain_literals.specs.Literals.{Valued, literal, whole_value, constant_of, entry_in, entry_of, entry_with}
use Rattle.grain_literals.specs.Operands.{alone}
use Rattle.grain_literals.specs.Steps.{and_then, present}
use Rattle.grain_literals.specs.Values.{made}
use Rattle.grain_literals.specs.declared.reasons.Reason.{Reason}
use Rattle.grain_literals.specs.declared.reasons.Reason.TheVariants.{BadValue}
use Rattle.grain_literals.proofs.SpelledValues.{spell}
use Rattle.grain_literals.proofs.ValuesSpelled.{Laws}
use Rattle.grain_literals.proofs.ValuesRead.{Ends, value_opens, not_trimmed, characters_of, text_of_value_read}

abbrev valued : Dynamic → List ℕ → Valued
valued v rest = Ok (v, rest)

pub literal_read : Laws → (v : Dynamic) (rest : List ℕ) → IsListed 64 (tree v) → Ends rest →
    literal (chars (quoted v) ++ rest) ≡ Ok (v, rest)
literal_read laws v rest l e =
    ap (λ o. present BadValue (made value_of o)) (text_of_value_read laws 64 (tree v) l rest e) ∙
    ap (λ d. valued d rest) (value_of-tree v)

-- the text of a value is the next word as it stands
value_stands : Laws → (v : Dynamic) → IsListed 64 (tree v) →
    trim_start (chars (quoted v)) ≡ chars (quoted v) ++ []
value_stands laws v l =
    let is = characters_of laws 64 (tree v) l in
    ap trim_start is ∙ not_trimmed (spell (tree v) []) (value_opens laws 64 (tree v) l []) ∙
    sym is ∙ sym (append-nil (chars (quoted v)))

pub constant_read : Laws → (v : Dynamic) → IsListed 64 (tree v) →
    constant_of (32 ∷ chars (quoted v)) ≡ Ok v
constant_read laws v l =
    ap (λ cs. and_then (and_then (literal cs) whole_value) (λ a. alone a.1 a.0))
    (value_stands laws v l) ∙
    ap (λ r. and_then (and_then r whole_value) (λ a. alone a.1 a.0)) (literal_read laws v [] l refl)

-- what the crate of words says of a text that is the next word
pub record Texts : Type 0 where
  pub read : (s rest : List ℕ) → IsUtf8 s → is_word_end rest ≡ true →
      next_text (chars (quoted_text s) ++ rest) ≡ Some (s, rest)
  pub characters : (s : List ℕ) → IsUtf8 s → chars (quoted_text s) ≡ quoted_characters (chars s)

abbrev entered : Entry → Result Entry Reason
entered e = Ok e

entry_in_read : Laws → Texts → (read_only : Bool) (name : List ℕ) (v : Dynamic) → IsUtf8 name →
    IsListed 64 (tree v) →
    entry_in read_only (32 ∷ (chars (quoted_text name) ++ 32 ∷ chars (quoted v))) ≡
    Ok (entry_with name read_only v)
entry_in_read laws texts read_only name v valid l =
    ap (λ o. and_then (present BadValue o) (λ a. and_then (constant_of a.1)
    (λ d. entered (entry_with a.0 read_only d))))
    (texts.read name (32 ∷ chars (quoted v)) valid refl) ∙
    ap (λ r. and_then r (λ d. entered (entry_with name read_only d))) (constant_read laws v l)

-- a name between quotes is no `const`
named : (name rest : List ℕ) → chars (quoted_text name) ≡ quoted_characters (chars name) →
    entry_of (32 ∷ (chars (quoted_text name) ++ rest)) ≡
    entry_in false (32 ∷ (chars (quoted_text name) ++ rest))
named name rest is = rw is refl

pub entry_read : Laws → Texts → (name : List ℕ) (v : Dynamic) → IsUtf8 name →
    IsListed 64 (tree v) →
    entry_of (32 ∷ (chars (quoted_text name) ++ 32 ∷ chars (quoted v))) ≡
    Ok (entry_with name false v)
entry_read laws texts name v valid l =
    named name (32 ∷ chars (quoted v)) (texts.characters name valid) ∙
    entry_in_read laws texts false name v valid l

pub read_only_read : Laws → Texts → (name : List ℕ) (v : Dynamic) → IsUtf8 name →
    IsListed 64 (tree v) →
    entry_of (codes " const " ++ (chars (quoted_text name) ++ 32 ∷ chars (quoted v))) ≡
    Ok (entry_with name true v)
read_only_read laws texts name v valid l = entry_in_read laws texts true name v valid l
