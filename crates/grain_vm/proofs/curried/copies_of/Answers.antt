-- One value more was copied.
use Rattle.std.proofs.Common.{rules, ◌≡◌, ◌∷◌, [], ◌++◌}
use Rattle.grain_value.specs.View.{tree}
use Rattle.grain_vm.proofs.Reading.{copied_on}
use Rattle.grain_vm.proofs.curried.copies_of.Goals as goal

pub curried-preserved : goal.curried-preserved
curried-preserved c =
    let t = tree c.at.result.now in
    let more : c.push.new.self ≡ c.curried.all ++ t ∷ [] = search rules in
    copied_on c.curried.all c.push.new.self c.args.curry.now c.curried.index t c.args.curry.now more
    c.at.ensures c.curried.invariant

pub others-preserved : goal.others-preserved
others-preserved c =
    let t = tree c.at-in-others.result.now in
    let more : c.push-in-others.new.self ≡ c.others.all ++ t ∷ [] = search rules in
    copied_on c.others.all c.push-in-others.new.self c.args.others.now c.others.index t
    (c.args.curry.now ++ c.args.others.now) more c.at-in-others.ensures c.others.invariant
