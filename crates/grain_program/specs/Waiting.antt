-- The addresses that wait: the lowest one apart, where it is known, and the others.
use Rattle.std.specs.Prelude.{ℕ, ◌<◌, List, [], ◌∷◌, Option, Some, None}

-- the number is below each of the ascending numbers
abbrev pub IsBelow : ℕ → List ℕ → Type 0
IsBelow a [] = Unit {0}
IsBelow a (x ∷ xs) = a < x

-- the first number, if there is one, before the others
abbrev pub with_first : Option ℕ → List ℕ → List ℕ
with_first None xs = xs
with_first (Some a) xs = a ∷ xs

-- the first number, if there is one, is below each of the others
abbrev pub IsFirst : Option ℕ → List ℕ → Type 0
IsFirst None xs = Unit {0}
IsFirst (Some a) xs = IsBelow a xs
