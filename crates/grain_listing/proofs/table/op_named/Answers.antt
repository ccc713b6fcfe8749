use Rattle.grain_listing.proofs.Spelled.{from_all}
use Rattle.grain_listing.proofs.table.op_named.Goals as goal

pub tags-init : goal.tags-init
tags-init c = from_all c.args.word.now
