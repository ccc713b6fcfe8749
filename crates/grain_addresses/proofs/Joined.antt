-- A text that is written piece by piece.
use Rattle.std.proofs.Common.{◌≡◌, List, ℕ, ◌++◌, cond, is_ok, IfOk, Result, Ok, Err, ap, ◌∙◌, append_assoc}

pub three : (out a b d x y z : List ℕ) → x ≡ out ++ a → y ≡ x ++ b → z ≡ y ++ d →
    z ≡ out ++ (a ++ b ++ d)
three out a b d x y z ex ey ez =
    ez ∙ ap (λ (l : List ℕ). l ++ d) (ey ∙ ap (λ (l : List ℕ). l ++ b) ex ∙ append_assoc out a b) ∙
    append_assoc out (a ++ b) d

pub four : (out a b d e w x y z : List ℕ) → w ≡ out ++ a → x ≡ w ++ b → y ≡ x ++ d → z ≡ y ++ e →
    z ≡ out ++ (a ++ b ++ d ++ e)
four out a b d e w x y z ew ex ey ez =
    ez ∙ ap (λ (l : List ℕ). l ++ e) (three out a b d w x y ew ex ey) ∙
    append_assoc out (a ++ b ++ d) e

-- what a push leaves where there was memory
pub on_ok : {A E : Type 0} (r : Result A E) (x a b : List ℕ) → x ≡ cond (is_ok r) a b →
    IfOk r (λ _. x ≡ a)
on_ok (Ok y) x a b e = e
on_ok (Err y) x a b e = tt
