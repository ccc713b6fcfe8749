-- One value more was copied.
use Rattle.std.proofs.Common.{rules, ◌≡◌, ◌∷◌, [], ◌++◌}
use Rattle.grain_value.specs.View.{tree}
use Rattle.grain_vm.proofs.Reading.{copied_on}
use Rattle.grain_vm.proofs.arguments.with_first.Goals as goal

pub others-preserved : goal.others-preserved
others-preserved c =
    let t = tree c.at.result.now in
    let more : c.push-in-others.new.self ≡ c.others.all ++ t ∷ [] = search rules in
    copied_on c.others.all c.push-in-others.new.self c.args.others.now c.others.index t
    (tree c.args.first.now ∷ c.args.others.now) more c.at.ensures c.others.invariant
