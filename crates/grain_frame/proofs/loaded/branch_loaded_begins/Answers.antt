use Rattle.std.proofs.Common.{refl}
use Rattle.grain_value.specs.declared.values.Dynamic.TheVariants as dynamic
use Rattle.grain_value.specs.Operands.{read_write}
use Rattle.grain_frame.proofs.Loading.{under_pushed}
use Rattle.grain_frame.proofs.loaded.branch_loaded_begins.Goals as goal

pub returns-clause-run : goal.returns-clause-run
returns-clause-run g c =
    rw (
      under_pushed c.args.run.now.stacks.operands (read_write (dynamic.Int c.args.integer)),
      c.drop_top.ensures,
    ) refl
