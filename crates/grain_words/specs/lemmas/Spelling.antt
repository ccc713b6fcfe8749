-- Texts, their characters and their bytes.
use Rattle.std.proofs.Common.{◌≡◌, ℕ, ◌<◌, List, [], ◌∷◌, ◌++◌, sym, ap, ◌∙◌, arith, subst}
use Rattle.std.specs.Str.{chars, IsUtf8}
use Rattle.std.specs.Char.{encode_utf8}
use Rattle.std.proofs.lemmas.Str.{IsUtf8-nil, IsUtf8-append, IsUtf8-encode, chars-append, chars-nil, encode_ascii, chars_past_char}
use Rattle.std.proofs.Math.Utf8.{low_scalar}
use Rattle.grain_words.specs.Spelled.{Spells}

pub spells_none : Spells [] []
spells_none = (IsUtf8-nil, chars-nil)

pub spells_append : (cs ds xs ys : List ℕ) → Spells cs xs → Spells ds ys →
    Spells (cs ++ ds) (xs ++ ys)
spells_append cs ds xs ys a b = (
  IsUtf8-append xs ys a.0 b.0,
  chars-append xs ys a.0 ∙ ap (λ l. l ++ chars ys) a.1 ∙ ap (λ l. cs ++ l) b.1,
)

pub one_ascii : (c : ℕ) (cs bytes : List ℕ) → c < 128 → Spells cs bytes →
    Spells (c ∷ cs) (c ∷ bytes)
one_ascii c cs bytes low s =
    let e : encode_utf8 c ++ bytes ≡ c ∷ bytes = ap (λ l. l ++ bytes) (encode_ascii c low) in
    let u : IsUtf8 (c ∷ bytes) =
    subst IsUtf8 e (IsUtf8-append (encode_utf8 c) bytes
    (IsUtf8-encode c (low_scalar c (omega arith))) s.0) in
    (u, chars_past_char (c ∷ bytes) bytes c u (sym e) ∙ ap (λ l. c ∷ l) s.1)
