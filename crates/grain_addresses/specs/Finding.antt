-- Which line gives the byte at an address.
use Rattle.std.specs.Prelude.{ℕ, ◌+◌, ◌≡◌, ◌≤◌, Bool, ◌&&◌, nat_le, nat_lt, List, [], ◌∷◌, Option, Some, None, if◌then◌else◌}
use Rattle.grain_addresses.specs.Places.{Place}

-- the byte at the address is one of those that the line gives
abbrev pub holds : ℕ → Place → Bool
holds a p = nat_le p.address a && nat_lt a (p.address + p.width)

-- the line that gives the byte at the address
abbrev pub found : ℕ → List Place → Option Place
found a [] = None
found a (p ∷ ps) = if holds a p then Some p else found a ps

-- the lines' bytes follow one another from the address on, and each line gives some
abbrev pub IsTiled : ℕ → List Place → Type 0
IsTiled a [] = Unit {0}
IsTiled a (p ∷ ps) = (p.address ≡ a) × (1 ≤ p.width) × IsTiled (a + p.width) ps
