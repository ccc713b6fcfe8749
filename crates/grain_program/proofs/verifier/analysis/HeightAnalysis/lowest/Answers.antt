use Rattle.grain_program.proofs.Searched.{lowest_of}
use Rattle.grain_program.proofs.verifier.analysis.HeightAnalysis.lowest.Goals as goal

pub returns : goal.returns
returns c =
    lowest_of c.pop_lowest.result c.args.self.now c.self.inside.shapes c.self.inside.waiting
    c.pop_lowest.new.self c.self.inside.handlers c.self.view_is c.pop_lowest.ensures
