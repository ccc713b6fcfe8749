-- What holds of the part of a choice that is taken holds of the choice.
use Rattle.std.proofs.Common.{◌≡◌, Bool, true, false, if◌then◌else◌}

pub if_false : {A : Type 0} (P : A → Type 0) (b : Bool) (x y : A) → b ≡ false → P y →
    P (if b then x else y)
if_false P true x y e p = absurd cc
if_false P false x y e p = p

pub if_true : {A : Type 0} (P : A → Type 0) (b : Bool) (x y : A) → b ≡ true → P x →
    P (if b then x else y)
if_true P true x y e p = p
if_true P false x y e p = absurd cc
