-- The others stay where they are.
use Rattle.std.proofs.Common.{◌≡◌, ◌∙◌, ℕ, zero, suc, List, [], ◌∷◌, slice_set, refl, ap}
use Rattle.grain_value.specs.Tree.{Tree}
use Rattle.grain_value.specs.View.{tree, trees}
use Rattle.grain_value.specs.declared.values.Dynamic.{Dynamic}
use Rattle.grain_value.proofs.values.Array.take.Goals as goal

trees_set : (ds : List Dynamic) (i : ℕ) (d : Dynamic) →
    trees (slice_set ds i d) ≡ slice_set (trees ds) i (tree d)
trees_set [] i d = refl
trees_set (x ∷ ds) zero d = refl
trees_set (x ∷ ds) (suc i) d = ap (λ (ts : List Tree). tree x ∷ ts) (trees_set ds i d)

pub returns-clause-rest : goal.returns-clause-rest
returns-clause-rest c =
    trees_set c.self.inside.values.items c.args.index c.take.new.self
    ∙ (λ i. slice_set (c.self.view_is i) c.args.index (tree (c.take.ensures.rest i)))
