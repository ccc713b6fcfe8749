-- The ways that reading goes on from bytes.
use Rattle.std.proofs.Common.{◌≡◌, ◌≤◌, ℕ, List, Bool, true, false, length, nat_lt, refl, ap, ◌∙◌, Err, le-ltb}
use Rattle.std.specs.Str.{IsUtf8, is_utf8, chars}
use Rattle.std.proofs.lemmas.Str.{IsUtf8-from_is_utf8, is_utf8-from_IsUtf8}
use Rattle.grain_words.specs.Lines.{lines_of}
use Rattle.grain_literals.specs.declared.reasons.Reason.TheVariants.{NotUtf8}
use Rattle.grain_listing.specs.Reading.{reads, meaning, most_bytes, broken_line, bad_line}

is_false : (bytes : List ℕ) (b : Bool) → is_utf8 bytes ≡ b → (IsUtf8 bytes → ⊥) →
    is_utf8 bytes ≡ false
is_false bytes true e h = absurd (h (IsUtf8-from_is_utf8 bytes e))
is_false bytes false e h = e

pub no_text : (bytes : List ℕ) (n : ℕ) → length bytes ≤ 16777216 → (IsUtf8 bytes → ⊥) →
    n ≡ broken_line bytes → Err (bad_line n NotUtf8) ≡ reads bytes
no_text bytes n l h is =
    let short : nat_lt most_bytes (length bytes) ≡ false = le-ltb _ _ l in
    let other = is_false bytes (is_utf8 bytes) refl h in
    rw (is, short, other) refl

pub is_text : (bytes cs : List ℕ) → length bytes ≤ 16777216 → IsUtf8 bytes → cs ≡ chars bytes →
    meaning (lines_of cs) ≡ reads bytes
is_text bytes cs l h e =
    let short : nat_lt most_bytes (length bytes) ≡ false = le-ltb _ _ l in
    let valid = is_utf8-from_IsUtf8 bytes h in
    ap (λ k. meaning (lines_of k)) e ∙ rw (short, valid) refl
