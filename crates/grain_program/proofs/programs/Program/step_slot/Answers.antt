-- There are slots for the steps of all chains of a program.
use Rattle.std.proofs.Common.{◌≤◌, sym, subst}
use Rattle.grain_program.specs.View.{view_of}
use Rattle.grain_program.specs.Chains.{all_slots, most_slots}
use Rattle.grain_program.proofs.GoodChains.{room_for_all}
use Rattle.grain_program.proofs.programs.Program.step_slot.Goals as goal

pub slot_among-requires-clause-room : goal.slot_among-requires-clause-room
slot_among-requires-clause-room c =
    subst (λ cs. all_slots cs ≤ most_slots) (sym c.as_slice-chains.ensures)
    (room_for_all (view_of c.self.inside.parts) c.self.invariant.0.chains)
