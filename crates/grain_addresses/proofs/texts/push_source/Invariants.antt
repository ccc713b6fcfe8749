use Rattle.std.proofs.Common.{◌≡◌, ◌++◌, length}
use Rattle.std.specs.Str.{encode_utf8_all}
use Rattle.grain_addresses.proofs.texts.push_source.Given as goal

abbrev pub invariant-scan : goal.invariant-scan
invariant-scan l = l.out ++ encode_utf8_all l.rest ≡ l.initial.out ++ encode_utf8_all l.line

abbrev pub decreases-scan : goal.decreases-scan
decreases-scan l = length l.rest
