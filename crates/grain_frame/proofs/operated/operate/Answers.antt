use Rattle.std.proofs.Common.{arith}
use Rattle.std.proofs.lemmas.List.{length-map}
use Rattle.grain_value.specs.Operands.{value_in, values_in}
use Rattle.grain_frame.proofs.Flattening.{many_values, read_length}
use Rattle.grain_frame.proofs.operated.operate.Goals as goal

pub returns-in-len3-up : goal.returns-in-len3-up
returns-in-len3-up c = λ args is.
    many_values c.args.engine.now.limits c.args.token (values_in args) (omega (
      arith,
      c.in-len3-up.len_at_least,
      read_length c.args.cells.now c.args.arguments.now args is,
      length-map args value_in,
    ))
