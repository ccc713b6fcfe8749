-- There are slots for the steps of all chains of a program.
use Rattle.std.proofs.Common.{◌≤◌, sym, subst}
use Rattle.grain_program.specs.View.{view_of}
use Rattle.grain_program.specs.Chains.{all_slots, most_slots}
use Rattle.grain_program.proofs.GoodChains.{room_for_all}
use Rattle.grain_program.proofs.programs.verify.Goals as goal

pub first_slots-requires : goal.first_slots-requires
first_slots-requires c =
    subst (λ cs. all_slots cs ≤ most_slots) (sym c.as_slice.ensures)
    (room_for_all (view_of c.args.parts) c.in_default.ensures.sound.chains)
