-- A quoted character is read as that character.
use Rattle.std.proofs.Common.{◌≡◌, ◌∷◌, ◌++◌, ◌==◌, ℕ, Bool, true, false, cond, List, [], Some, refl, sym, ap, ◌∙◌, eqb-true}
use Rattle.std.specs.Char.{encode_utf8, IsScalar}
use Rattle.std.specs.Str.{encode_utf8_all, chars}
use Rattle.std.proofs.Math.Utf8.{scalars}
use Rattle.std.proofs.lemmas.Str.{chars-encodes}
use Rattle.grain_value.specs.Quoting.{quoted_character}
use Rattle.grain_words.specs.Characters.{character}
use Rattle.grain_words.specs.Spelled.{Spells, between_apostrophes}

tested : (c : ℕ) (a q b n r t : Bool) (rest : List ℕ) → (c == 39) ≡ a → (c == 34) ≡ q →
    (c == 92) ≡ b → (c == 10) ≡ n → (c == 13) ≡ r → (c == 9) ≡ t →
    character (cond a (92 ∷ 39 ∷ []) (cond q (92 ∷ 34 ∷ []) (cond b (92 ∷ 92 ∷ [])
    (cond n (92 ∷ 110 ∷ []) (cond r (92 ∷ 114 ∷ []) (cond t (92 ∷ 116 ∷ []) (c ∷ []))))))
    ++ 39 ∷ rest) ≡ Some (c, rest)
tested c true q b n r t rest ha hq hb hn hr ht = rw (eqb-true c 39 ha) refl
tested c false true b n r t rest ha hq hb hn hr ht = rw (eqb-true c 34 hq) refl
tested c false false true n r t rest ha hq hb hn hr ht = rw (eqb-true c 92 hb) refl
tested c false false false true r t rest ha hq hb hn hr ht = rw (eqb-true c 10 hn) refl
tested c false false false false true t rest ha hq hb hn hr ht = rw (eqb-true c 13 hr) refl
tested c false false false false false true rest ha hq hb hn hr ht = rw (eqb-true c 9 ht) refl
tested c false false false false false false rest ha hq hb hn hr ht = rw (ha, hb) refl

pub character_read : (c : ℕ) (rest : List ℕ) →
    character (between_apostrophes c ++ 39 ∷ rest) ≡ Some (c, rest)
character_read c rest =
    tested c (c == 39) (c == 34) (c == 92) (c == 10) (c == 13) (c == 9) rest refl refl refl refl
    refl refl

written : (c : ℕ) (a q b n r t : Bool) →
    encode_utf8_all (39 ∷ (cond a (92 ∷ 39 ∷ []) (cond q (92 ∷ 34 ∷ []) (cond b (92 ∷ 92 ∷ [])
    (cond n (92 ∷ 110 ∷ []) (cond r (92 ∷ 114 ∷ []) (cond t (92 ∷ 116 ∷ []) (c ∷ []))))))
    ++ 39 ∷ [])) ≡
    39 ∷ (cond a (92 ∷ 39 ∷ []) (cond q (92 ∷ 34 ∷ []) (cond b (92 ∷ 92 ∷ [])
    (cond n (92 ∷ 110 ∷ []) (cond r (92 ∷ 114 ∷ []) (cond t (92 ∷ 116 ∷ []) (encode_utf8 c))))))
    ++ 39 ∷ [])
unfolding encode_utf8
written c true q b n r t = refl
written c false true b n r t = refl
written c false false true n r t = refl
written c false false false true r t = refl
written c false false false false true t = refl
written c false false false false false true = refl
written c false false false false false false = refl

all_scalar : (c : ℕ) (a q b n r t : Bool) → IsScalar c →
    scalars (39 ∷ (cond a (92 ∷ 39 ∷ []) (cond q (92 ∷ 34 ∷ []) (cond b (92 ∷ 92 ∷ [])
    (cond n (92 ∷ 110 ∷ []) (cond r (92 ∷ 114 ∷ []) (cond t (92 ∷ 116 ∷ []) (c ∷ []))))))
    ++ 39 ∷ [])) ≡ true
all_scalar c true q b n r t h = refl
all_scalar c false true b n r t h = refl
all_scalar c false false true n r t h = refl
all_scalar c false false false true r t h = refl
all_scalar c false false false false true t h = refl
all_scalar c false false false false false true h = refl
all_scalar c false false false false false false h = rw h refl

pub character_spelled : (c : ℕ) → IsScalar c →
    Spells (39 ∷ (between_apostrophes c ++ 39 ∷ [])) (quoted_character c)
character_spelled c h =
    let w = written c (c == 39) (c == 34) (c == 92) (c == 10) (c == 13) (c == 9) in
    let s = all_scalar c (c == 39) (c == 34) (c == 92) (c == 10) (c == 13) (c == 9) h in (
      (39 ∷ (between_apostrophes c ++ 39 ∷ []), (s, w)),
      ap chars (sym w) ∙ chars-encodes (39 ∷ (between_apostrophes c ++ 39 ∷ [])) s,
    )
