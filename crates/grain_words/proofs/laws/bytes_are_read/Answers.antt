use Rattle.grain_words.proofs.BytesRead.{bytes_read, bytes_spelled}
use Rattle.grain_words.proofs.laws.bytes_are_read.Goals as goal

pub returns-clause-read : goal.returns-clause-read
returns-clause-read c = bytes_read

pub returns-clause-written : goal.returns-clause-written
returns-clause-written c = bytes_spelled
