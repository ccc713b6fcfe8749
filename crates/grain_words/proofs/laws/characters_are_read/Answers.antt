use Rattle.grain_words.proofs.QuotedCharacters.{character_read, character_spelled}
use Rattle.grain_words.proofs.laws.characters_are_read.Goals as goal

pub returns-clause-read : goal.returns-clause-read
returns-clause-read c = character_read

pub returns-clause-written : goal.returns-clause-written
returns-clause-written c = character_spelled
