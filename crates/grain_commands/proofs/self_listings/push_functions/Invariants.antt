-- The functions so far stand after what was there.
use Rattle.std.proofs.Common.{◌≡◌, ◌++◌}
use Rattle.grain_commands.specs.SelfListings.{for_each, function_block}
use Rattle.grain_commands.proofs.self_listings.push_functions.Given as goal

abbrev pub invariant-functions : goal.invariant-functions
invariant-functions l = l.out ≡ l.initial.out ++ for_each l.number function_block
