use Rattle.grain_literals.proofs.Rooms.{values_room, entries_room}
use Rattle.grain_literals.proofs.laws.lists_have_room.Goals as goal

pub returns-clause-values : goal.returns-clause-values
returns-clause-values c = values_room

pub returns-clause-entries : goal.returns-clause-entries
returns-clause-entries c = entries_room
