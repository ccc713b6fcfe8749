-- An operand, that there is none, and that there are enough for a step.
use Rattle.std.proofs.Common.{◌≡◌, ◌≤◌, ◌∙◌, ℕ, zero, suc, List, [], ◌∷◌, Some, None, slice_index_or, refl, sym, ap, arith}
use Rattle.std.specs.Prelude.{slice_get}
use Rattle.grain_value.specs.Tree.{Tree, unit}
use Rattle.grain_value.specs.View.{tree, value_of}
use Rattle.grain_value.specs.laws.Same.{value_of-tree}
use Rattle.grain_value.specs.declared.values.Dynamic.{Dynamic}
use Rattle.grain_program.specs.Chains.{HasOperands}
use Rattle.grain_program.specs.declared.code.chains.Step.{Step}
use Rattle.grain_program.specs.declared.code.chains.Step.TheVariants as step
use Rattle.grain_means.specs.lemmas.PlaceLaws.{some-inj}

pub found : (ts : List Tree) (i : ℕ) (v : Dynamic) → Some (tree v) ≡ slice_get ts i →
    value_of (slice_index_or ts i unit) ≡ v
found [] i v h = cc
found (t ∷ ts) zero v h = ap value_of (sym (some-inj h)) ∙ value_of-tree v
found (t ∷ ts) (suc i) v h = found ts i v h

pub missing : (ts : List Tree) (i : ℕ) → None ≡ slice_get ts i → slice_index_or ts i unit ≡ unit
missing [] i h = refl
missing (t ∷ ts) zero h = cc
missing (t ∷ ts) (suc i) h = missing ts i h

-- what is enough for a step is so where there are more
pub enough : (n m : ℕ) (s : Step) → HasOperands n s → n ≤ m → HasOperands m s
enough n m (step.Index operand flags q bracket) h le = omega (arith, h, le)
enough n m (step.Property name getter setter flags q) h le = tt
enough n m (step.Method name argc operand flags q) h le = omega (arith, h, le)
