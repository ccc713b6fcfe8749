-- What is quickly said of an operator on two integers.
use Rattle.std.specs.Prelude.{◌≡◌, ℤ}
use Rattle.grain_value.specs.declared.values.Dynamic.{Dynamic}
use Rattle.grain_value.specs.declared.values.Dynamic.TheVariants as dynamic
use Rattle.grain_ops.specs.Outcomes.{Outcome, Gave}
use Rattle.grain_ops.specs.declared.quick.Quick.{Quick}
use Rattle.grain_ops.specs.declared.quick.Quick.TheVariants as quick

-- what is given is what the operator gives; nothing need be given
abbrev pub Agrees : Quick → Outcome → Type 0
Agrees (quick.Int z) o = o ≡ Gave (dynamic.Int z)
Agrees (quick.Bool b) o = o ≡ Gave (dynamic.Bool b)
Agrees quick.None o = Unit {0}

-- both values are integers
abbrev pub AreIntegers : Dynamic → Dynamic → Type 0
AreIntegers u v = (x : ℤ) × (y : ℤ) × (u ≡ dynamic.Int x) × (v ≡ dynamic.Int y)

-- something is given
abbrev pub IsGiven : Quick → Type 0
IsGiven (quick.Int z) = Unit {0}
IsGiven (quick.Bool b) = Unit {0}
IsGiven quick.None = ⊥
