use Rattle.grain_program.proofs.RoundTrip.{op_at_again}
use Rattle.grain_program.proofs.code.bytes.assembled_reads_back.Goals as goal

pub returns : goal.returns
returns c = op_at_again
