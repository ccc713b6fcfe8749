-- The lines so far stand after what was there.
use Rattle.std.proofs.Common.{◌≡◌, ◌++◌}
use Rattle.grain_commands.specs.SelfListings.{number_lines}
use Rattle.grain_commands.proofs.self_listings.push_number_lines.Given as goal

abbrev pub invariant-lines : goal.invariant-lines
invariant-lines l = l.out ≡ l.initial.out ++ number_lines l.lead l.first l.behind l.number
