-- What a line gives is a value that a listing can hold.
use Rattle.std.proofs.Common.{◌≡◌, ◌==◌, ℕ, Bool, true, false, cond, List, [], ◌∷◌, Option, Some, None, Result, Ok, Err, codes, bytes_eq, subst, sym}
use Rattle.std.proofs.Math.Utf8.{scalars}
use Rattle.std.specs.Char.{IsScalar}
use Rattle.std.specs.List.{AllByRecursion}
use Rattle.std.specs.Str.{IsUtf8}
use Rattle.grain_value.specs.View.{value_of, tree}
use Rattle.grain_value.specs.laws.Same.{tree-value_of}
use Rattle.grain_value.specs.Tree.{Tree}
use Rattle.grain_value.specs.declared.scopes.Entry.{Entry}
use Rattle.grain_value.specs.declared.values.Dynamic.{Dynamic}
use Rattle.grain_words.specs.Words.{trim_start, is_word_end, is_over, next_word, quoted, whole, text, next_text}
use Rattle.grain_literals.specs.Listed.{IsListed}
use Rattle.grain_literals.specs.Literals.{literal, value_operand, whole_value, constant_of, text_operand, entry_in, entry_after, entry_of, entry_with}
use Rattle.grain_literals.specs.Operands.{alone, after_name, behind_name}
use Rattle.grain_literals.specs.Steps.{and_then, present}
use Rattle.grain_literals.specs.Values.{Found, made, value}
use Rattle.grain_literals.specs.declared.reasons.Reason.{Reason}
use Rattle.grain_literals.specs.declared.reasons.Reason.TheVariants.{BadValue, BadOperand}
use Rattle.grain_literals.specs.laws.Scalars.{rest_of, all_scalars, trimmed, AfterWord, after_next}
use Rattle.grain_literals.proofs.ReadListed.{value_gives}
use Rattle.grain_literals.proofs.TextsListed.{quoted_gives}
use Rattle.grain_literals.proofs.Yielded.{Yields, Left, in_cond}

-- what was answered satisfies P, if the step was not refused
abbrev Answers : {A : Type 0} → (A → Type 0) → Result A Reason → Type 0
Answers P (Ok x) = P x
Answers P (Err e) = Unit {0}

in_step : {A B : Type 0} (P : A → Type 0) (Q : B → Type 0) (go : A → Result B Reason)
    (r : Result A Reason) → Answers P r → ((x : A) → P x → Answers Q (go x)) →
    Answers Q (and_then r go)
in_step P Q go (Ok x) a h = h x a
in_step P Q go (Err e) a h = tt

in_answer : {A : Type 0} (P : A → Type 0) (b : Bool) (x : A) (e : Reason) → P x →
    Answers P (cond b (Ok x) (Err e))
in_answer P true x e p = p
in_answer P false x e p = tt

abbrev IsValue : Dynamic → Type 0
IsValue v = IsListed 64 (tree v)

abbrev IsOperand : Dynamic × List ℕ → Type 0
IsOperand a = IsValue a.0

found_listed : (o : Found Tree) → Yields (IsListed 64) o →
    Answers IsOperand (present BadValue (made value_of o))
found_listed None y = tt
found_listed (Some x) y = subst (IsListed 64) (sym (tree-value_of x.0)) y.0

literal_listed : (cs : List ℕ) → scalars cs ≡ true → Answers IsOperand (literal cs)
literal_listed cs h = found_listed (value 64 cs) (value_gives 64 cs h)

constant_listed : (cs : List ℕ) → scalars cs ≡ true → Answers IsValue (constant_of cs)
constant_listed cs h =
    in_step IsOperand IsValue (λ a. alone a.1 a.0) (value_operand cs)
    (in_step IsOperand IsOperand whole_value (literal (trim_start cs))
    (literal_listed (trim_start cs) (trimmed cs h))
    (λ x p. in_answer IsOperand (is_word_end x.1) x BadValue p))
    (λ a p. in_answer IsValue (is_over a.1) a.0 BadOperand p)

abbrev IsName : List ℕ × List ℕ → Type 0
IsName a = IsUtf8 a.0 × (scalars a.1 ≡ true)

whole_gives : (o : Found (List ℕ)) → Yields IsUtf8 o → Yields IsUtf8 (whole o)
whole_gives None y = tt
whole_gives (Some x) y = in_cond IsUtf8 (is_word_end x.1) (Some x) None y tt

text_gives : (cs : List ℕ) → scalars cs ≡ true → Yields IsUtf8 (text cs)
text_gives [] h = tt
text_gives (c ∷ cs) h =
    in_cond IsUtf8 (c == 34) (whole (quoted cs)) None
    (whole_gives (quoted cs) (quoted_gives cs (rest_of c cs h))) tt

present_name : (o : Found (List ℕ)) → Yields IsUtf8 o → Answers IsName (present BadValue o)
present_name None y = tt
present_name (Some x) y = y

name_listed : (cs : List ℕ) → scalars cs ≡ true → Answers IsName (text_operand cs)
name_listed cs h =
    present_name (next_text cs) (text_gives (trim_start cs) (trimmed cs h))

abbrev IsEntry : Entry → Type 0
IsEntry e = IsUtf8 e.name × IsValue e.held.value

entry_in_listed : (read_only : Bool) (cs : List ℕ) → scalars cs ≡ true →
    Answers IsEntry (entry_in read_only cs)
entry_in_listed read_only cs h =
    in_step IsName IsEntry (λ a. and_then (constant_of a.1) (λ v. Ok (entry_with a.0 read_only v)))
    (text_operand cs) (name_listed cs h)
    (λ a p. in_step IsValue IsEntry (λ v. Ok (entry_with a.0 read_only v)) (constant_of a.1)
    (constant_listed a.1 p.1) (λ v q. (p.0, q)))

left_cond : (b : Bool) (x y : Option (List ℕ)) → Left x → Left y → Left (cond b x y)
left_cond true x y hx hy = hx
left_cond false x y hx hy = hy

behind_left : (t : List ℕ) (o : Option (List ℕ × List ℕ)) → AfterWord o → Left (behind_name t o)
behind_left t None h = tt
behind_left t (Some a) h = left_cond (bytes_eq a.0 t) (Some a.1) None h tt

entry_after_listed : (o : Option (List ℕ)) (cs : List ℕ) → Left o → scalars cs ≡ true →
    Answers IsEntry (entry_after o cs)
entry_after_listed None cs l h = entry_in_listed false cs h
entry_after_listed (Some rest) cs l h = entry_in_listed true rest l

entry_listed : (cs : List ℕ) → scalars cs ≡ true → Answers IsEntry (entry_of cs)
entry_listed cs h =
    entry_after_listed (after_name (codes "const") cs) cs
    (behind_left (codes "const") (next_word cs) (after_next cs h)) h

pub values_listed : (cs rest : List ℕ) (v : Dynamic) → AllByRecursion IsScalar cs →
    literal cs ≡ Ok (v, rest) → IsListed 64 (tree v)
values_listed cs rest v h is =
    subst (λ r. Answers IsOperand r) is (literal_listed cs (all_scalars cs h))

pub constants_listed : (cs : List ℕ) (v : Dynamic) → AllByRecursion IsScalar cs →
    constant_of cs ≡ Ok v → IsListed 64 (tree v)
constants_listed cs v h is =
    subst (λ r. Answers IsValue r) is (constant_listed cs (all_scalars cs h))

pub entries_listed : (cs : List ℕ) (e : Entry) → AllByRecursion IsScalar cs →
    entry_of cs ≡ Ok e → IsUtf8 e.name × IsListed 64 (tree e.held.value)
entries_listed cs e h is = subst (λ r. Answers IsEntry r) is (entry_listed cs (all_scalars cs h))
