-- What is written, and what is left.
use Rattle.std.proofs.Common.{◌≡◌, ◌++◌, drop}
use Rattle.std.specs.Str.{encode_utf8_all}
use Rattle.grain_value.proofs.values.parts.text_of.Given as goal

abbrev pub invariant-loop-character : goal.invariant-loop-character
invariant-loop-character l =
    l.text ++ encode_utf8_all (drop l.character-index l.characters)
    ≡ encode_utf8_all l.characters
