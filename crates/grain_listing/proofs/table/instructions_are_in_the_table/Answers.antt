use Rattle.grain_listing.proofs.Spelled.{in_table}
use Rattle.grain_listing.proofs.table.instructions_are_in_the_table.Goals as goal

pub returns : goal.returns
returns c = in_table
