-- Eight bytes are enough for each instruction.
use Rattle.grain_program.specs.laws.Widths.{width_of_short}
use Rattle.grain_program.proofs.code.bytes.width_of.Goals as goal

pub tagged-requires : goal.tagged-requires
tagged-requires c = width_of_short c.args.tag
