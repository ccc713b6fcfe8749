use Rattle.grain_streams.specs.lemmas.Unread.{no_read}
use Rattle.grain_addresses.proofs.program.where_args.Goals as goal

pub returns-in_default-clause-reads : goal.returns-in_default-clause-reads
returns-in_default-clause-reads g c = no_read g.S.Source.reads 16777217 c.args.source.now

pub returns-in_default-words_after_name-clause-reads :
    goal.returns-in_default-words_after_name-clause-reads
returns-in_default-words_after_name-clause-reads g c =
    no_read g.S.Source.reads 16777217 c.args.source.now
