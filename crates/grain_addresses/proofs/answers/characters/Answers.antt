use Rattle.std.proofs.Common.{rules}
use Rattle.std.proofs.lemmas.Str.{IsUtf8-from_is_utf8, chars_from_encodes}
use Rattle.grain_addresses.proofs.answers.characters.Goals as goal

pub unreachable-requires : goal.unreachable-requires
unreachable-requires c = c.in-Err.ensures.cases.0 (IsUtf8-from_is_utf8 c.args.bytes.now c.requires)

pub returns-clause-chars : goal.returns-clause-chars
returns-clause-chars c = search (rules, chars_from_encodes)
