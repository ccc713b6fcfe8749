-- Where the first root of a chain's walk is.
use Rattle.std.proofs.Common.{◌≡◌, ℕ, List, [], ◌∷◌, ◌++◌, Option, Some, None, refl}
use Rattle.grain_value.specs.declared.values.Held.{Held}
use Rattle.grain_program.specs.declared.code.chains.Root.{Root}
use Rattle.grain_program.specs.declared.code.chains.Root.TheVariants as root
use Rattle.grain_means.specs.Causes.Chains.{walk_place, walk_roots}
use Rattle.grain_means.specs.Rules.{new_root}
use Rattle.grain_means.specs.Worlds.{Place}

-- the walk's first root is one that is added to the roots
abbrev pub IsAdded : Root → Option ℕ → Option Place → Type 0
IsAdded (root.This q) None (Some p) = ⊥
IsAdded a cell this = Unit {0}

pub added_place : (a : Root) (cell : Option ℕ) (this : Option Place) (roots : List Held) →
    IsAdded a cell this → walk_place a cell this roots ≡ new_root roots
added_place (root.Local name slot) cell this roots is = refl
added_place root.Temporary cell this roots is = refl
added_place (root.This q) (Some i) this roots is = refl
added_place (root.This q) None None roots is = refl
added_place (root.This q) None (Some p) roots is = absurd is

pub added_root : (a : Root) (cell : Option ℕ) (this : Option Place) (h : Held) (roots : List Held) →
    IsAdded a cell this → walk_roots a cell this h roots ≡ roots ++ h ∷ []
added_root (root.Local name slot) cell this h roots is = refl
added_root root.Temporary cell this h roots is = refl
added_root (root.This q) (Some i) this h roots is = refl
added_root (root.This q) None None h roots is = refl
added_root (root.This q) None (Some p) h roots is = absurd is

-- the content of a cell is added
pub added_cell : (a : Root) (i : ℕ) (this : Option Place) → IsAdded a (Some i) this
added_cell (root.Local name slot) i this = tt
added_cell root.Temporary i this = tt
added_cell (root.This q) i this = tt
