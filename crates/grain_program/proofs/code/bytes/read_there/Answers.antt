-- What is read is what stands there.
use Rattle.std.proofs.Common.{◌∙◌, rules}
use Rattle.grain_program.specs.laws.Widths.{op_at_tag}
use Rattle.grain_program.proofs.code.bytes.read_there.Goals as goal

pub returns : goal.returns
returns c = op_at_tag c.args.code.now c.args.address c.requires.there ∙ search rules
