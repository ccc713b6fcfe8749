use Rattle.grain_words.proofs.QuotedTexts.{quoted_read, written_read, written_spelled, inside}
use Rattle.grain_words.proofs.laws.quoted_texts_are_read.Goals as goal

pub returns-clause-written : goal.returns-clause-written
returns-clause-written c = written_read

pub returns-clause-spelled : goal.returns-clause-spelled
returns-clause-spelled c = written_spelled

pub returns-clause-characters : goal.returns-clause-characters
returns-clause-characters c = quoted_read

pub returns-clause-inside : goal.returns-clause-inside
returns-clause-inside c = inside
