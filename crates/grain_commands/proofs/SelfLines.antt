-- Texts that are put one after the other.
use Rattle.std.proofs.Common.{◌≡◌, ◌++◌, ◌∙◌, ℕ, List, ap, append_assoc}

-- three texts after what was there
pub three_put : (begun one two last a b d : List ℕ) → one ≡ begun ++ a → two ≡ one ++ b →
    last ≡ two ++ d → last ≡ begun ++ (a ++ (b ++ d))
three_put begun one two last a b d first second third =
    third
    ∙ ap (λ (l : List ℕ). l ++ d) (second ∙ ap (λ (l : List ℕ). l ++ b) first)
    ∙ append_assoc (begun ++ a) b d
    ∙ append_assoc begun a (b ++ d)
