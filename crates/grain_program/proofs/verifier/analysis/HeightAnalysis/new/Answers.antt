-- Nothing is known, and no list has a number.
use Rattle.grain_program.proofs.Searched.{none_numbered, new_is}
use Rattle.grain_program.proofs.verifier.analysis.HeightAnalysis.new.Goals as goal

pub invariant_of-result : goal.invariant_of-result
invariant_of-result c =
    none_numbered c.new-3.result c.args.len c.in_ok-shapes.shapes c.in_ok-shapes.ensures

pub returns : goal.returns
returns c =
    new_is c.args.len c.in_ok-shapes.shapes c.new-2.result c.new-3.result c.in_ok-shapes.ensures
    c.new-2.ensures
