-- A frame that runs is typed with its operands.
use Rattle.std.proofs.Common.{length}
use Rattle.grain_frame.specs.Abstraction.{tries_in}
use Rattle.grain_frame.specs.lemmas.Arms.{is_typed}
use Rattle.grain_frame.proofs.fetching.fetch.Goals as goal

pub fetch-requires : goal.fetch-requires
fetch-requires g c =
    is_typed c.args.context.program.now c.args.frame.now c.args.run.now c.requires.runs

pub returns-clause-provides : goal.returns-clause-provides
returns-clause-provides g c =
    let s = c.args.run.now in
    c.fetch.ensures.provides (length s.stacks.operands) (length s.stacks.cursors)
    (tries_in s.stacks.handlers) c.requires.runs.typed
