-- A text grows by one character at its end.
use Rattle.std.proofs.Common.{◌≡◌, ℕ, Bool, false, true, cond, List, [], ◌∷◌, ◌++◌, Option, Some, None, option_map, refl, sym, ap, ◌∙◌, append_assoc}
use Rattle.grain_words.specs.Words.{quoted, in_front, whole, behind, is_word_end}
use Rattle.grain_words.specs.Bytes.{hex_bytes}

abbrev Found : Type 0
Found = Option (List ℕ × List ℕ)

twice : (t u : List ℕ) (o : Found) → in_front t (in_front u o) ≡ in_front (t ++ u) o
twice t u None = refl
twice t u (Some x) = ap (λ (s : List ℕ). Some (s, x.1)) (sym (append_assoc t u x.0))

pub quoted_more : (t u : List ℕ) (c : ℕ) (rest after others : List ℕ) (all : Found) →
    rest ≡ c ∷ after →
    quoted (c ∷ after) ≡ in_front u (quoted others) → in_front t (quoted rest) ≡ all →
    in_front (t ++ u) (quoted others) ≡ all
quoted_more t u c rest after others all r h e =
    sym (twice t u (quoted others)) ∙ ap (in_front t) (sym h ∙ ap quoted (sym r)) ∙ e

-- bytes grow by one at their end
pub bytes_more : (t : List ℕ) (b : ℕ) (c : ℕ) (rest after others : List ℕ) (all : Found) →
    rest ≡ c ∷ after → hex_bytes (c ∷ after) ≡ in_front (b ∷ []) (hex_bytes others) →
    in_front t (hex_bytes rest) ≡ all → in_front (t ++ b ∷ []) (hex_bytes others) ≡ all
bytes_more t b c rest after others all r h e =
    sym (twice t (b ∷ []) (hex_bytes others)) ∙ ap (in_front t) (sym h ∙ ap hex_bytes (sym r)) ∙ e

-- a text in front of what was found changes nothing of what follows
rests : (t : List ℕ) (o : Found) → option_map (λ x. x.1) (in_front t o) ≡ option_map (λ x. x.1) o
rests t None = refl
rests t (Some x) = refl

pub behind_more : (u : List ℕ) (c : ℕ) (rest after others : List ℕ) (all : Option (List ℕ)) →
    rest ≡ c ∷ after →
    quoted (c ∷ after) ≡ in_front u (quoted others) →
    option_map (λ x. x.1) (quoted rest) ≡ all →
    option_map (λ x. x.1) (quoted others) ≡ all
behind_more u c rest after others all r h e =
    sym (rests u (quoted others)) ∙
    ap (λ (o : Found). option_map (λ x. x.1) o) (sym h ∙ ap quoted (sym r)) ∙ e

pub skipped_whole : (o : Found) (r : Option (List ℕ)) → r ≡ option_map (λ x. x.1) o →
    (b : Bool) (after : List ℕ) → r ≡ Some after → is_word_end after ≡ b →
    cond b after [] ≡ behind (whole o)
skipped_whole None r e b after is ends = absurd cc
skipped_whole (Some x) r e b after is ends =
    let same : after ≡ x.1 = cc in
    let at : is_word_end x.1 ≡ b = ap is_word_end (sym same) ∙ ends in
    rw at (here b same) where
      here : (d : Bool) → after ≡ x.1 → cond d after [] ≡ behind (cond d (Some x) None)
      here true s = s
      here false s = refl

pub skipped_none : (o : Found) → None ≡ option_map (λ x. x.1) o → [] ≡ behind (whole o)
skipped_none None e = refl
skipped_none (Some x) e = absurd cc
