-- Where what is held is written: in its cell, if it is one, and else where it stands.
use Rattle.std.proofs.Common.{◌≡◌, ℕ, Option, Some, None, refl}
use Rattle.grain_means.specs.Worlds.{Place}
use Rattle.grain_means.specs.Rules.{Home, InScope, InCell, AtPlace, at_place_of, in_entry}

-- what is held is written here: in its cell, if it is one, and else where it stands
abbrev pub IsHomeOf : Option ℕ → Home → Type 0
IsHomeOf cell (InScope i) = cell ≡ None
IsHomeOf cell (InCell n) = cell ≡ Some n
IsHomeOf cell (AtPlace p) = cell ≡ None

pub home_in_entry : (i : ℕ) (cell : Option ℕ) → IsHomeOf cell (in_entry i cell)
home_in_entry i None = refl
home_in_entry i (Some n) = refl

pub home_at_place : (p : Place) (cell : Option ℕ) → IsHomeOf cell (at_place_of p cell)
home_at_place p None = refl
home_at_place p (Some n) = refl
