-- The operand is a cell that is lent.
use Rattle.std.proofs.Common.{◌≡◌, [], None, refl, rules}
use Rattle.grain_value.specs.Cells.{flat}
use Rattle.grain_value.specs.Operands.{top}
use Rattle.grain_fault.specs.Problems.{Plain, DataRace}
use Rattle.grain_program.specs.View.{position_of}
use Rattle.grain_means.specs.Rules.{race_text}
use Rattle.grain_frame.specs.lemmas.Failing.{raises_here}
use Rattle.grain_frame.proofs.runs.Run.throw.Goals as goal

pub returns-then-not-is_readable : goal.returns-then-not-is_readable
returns-then-not-is_readable g c =
    let p = c.args.context.program.now in
    let s = c.args.self.now in
    let f = c.args.frame.now in
    let none : flat s.cells (top s.stacks.operands).value ≡ None = search rules in
    record {
      performs = λ host. raises_here g.H.Host.law p c.args.context.engine.now f s
          c.data_race.new.self c.args.steps.now c.data_race.new.steps host
          (Plain (DataRace (race_text [])) (position_of p f.address)) c.data_race.result
          c.data_race.ensures c.requires.ready.inside (λ stop u place. rw none refl);
    }
