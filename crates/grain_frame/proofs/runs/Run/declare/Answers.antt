-- The operand is a cell that is lent, or there are as many variables as are allowed.
use Rattle.std.proofs.Common.{◌≡◌, [], None, Ok, true, refl, rules}
use Rattle.std.specs.Prelude.{is_some}
use Rattle.grain_value.specs.Cells.{flat}
use Rattle.grain_value.specs.Operands.{top}
use Rattle.grain_fault.specs.Problems.{Plain, DataRace, TooManyVariables}
use Rattle.grain_program.specs.View.{position_of}
use Rattle.grain_means.specs.Rules.{race_text}
use Rattle.grain_frame.specs.lemmas.Failing.{raises_here}
use Rattle.grain_frame.proofs.Flattening.{value_there}
use Rattle.grain_frame.proofs.runs.Run.declare.Goals as goal

pub returns-then-not-is_readable : goal.returns-then-not-is_readable
returns-then-not-is_readable g c =
    let p = c.args.context.program.now in
    let s = c.args.self.now in
    let f = c.args.frame.now in
    let none : flat s.cells (top s.stacks.operands).value ≡ None = search rules in
    record {
      implements = λ host. raises_here g.H.Host.law p c.args.context.engine.now f s
          c.data_race.new.self c.args.steps.now c.data_race.new.steps host
          (Plain (DataRace (race_text [])) (position_of p f.address)) c.data_race.result
          c.data_race.ensures c.requires.ready.inside (λ stop u place. rw none refl);
    }

pub returns-then-len-context : goal.returns-then-len-context
returns-then-len-context g c =
    let p = c.args.context.program.now in
    let s = c.args.self.now in
    let f = c.args.frame.now in
    let readable : is_some (flat s.cells (top s.stacks.operands).value) ≡ true = search rules in
    let read = value_there (flat s.cells (top s.stacks.operands).value) readable in
    record {
      implements = λ host. raises_here g.H.Host.law p c.args.context.engine.now f s
          c.too_many_variables.new.self c.args.steps.now c.too_many_variables.new.steps host
          (Plain TooManyVariables (position_of p f.address)) (Ok c.too_many_variables.result)
          c.too_many_variables.ensures c.requires.ready.inside (λ stop u place. rw read.1 (search rules));
    }
