-- What has the word stands at this tag or at a later one.
use Rattle.std.proofs.Common.{◌≡◌}
use Rattle.grain_listing.specs.Instructions.{op_named}
use Rattle.grain_listing.proofs.Spelled.{named_from}
use Rattle.grain_listing.proofs.table.op_named.Given as goal

abbrev pub invariant-tags : goal.invariant-tags
invariant-tags l = named_from l.tag l.word ≡ op_named l.word
