-- What `chars` gives of a text are its characters.
use Rattle.std.proofs.Common.{rules}
use Rattle.std.proofs.lemmas.Str.{chars_from_encodes}
use Rattle.grain_value.proofs.texts.Text.char_count.Goals as goal

pub returns : goal.returns
returns c = search (rules, chars_from_encodes)
