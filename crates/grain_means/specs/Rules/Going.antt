-- How a frame goes on: to the next instruction, by a transfer, or with a value more.
use Rattle.std.specs.Prelude.{ℕ, List, [], ◌∷◌, ◌++◌, if◌then◌else◌, nat_le}
use Rattle.grain_value.specs.declared.values.Dynamic.{Dynamic}
use Rattle.grain_value.specs.declared.values.Held.{Held}
use Rattle.grain_value.specs.Operands.{read_write}
use Rattle.grain_means.specs.Worlds.{Frame, World, InFrame, Act, Go, Setup}
use Rattle.grain_means.specs.Rules.Frames.{stepped}
use Rattle.grain_means.specs.Rules.Faults.{marked, charged}

module _ {S : Type 0} (m : Setup S) where
  -- The instruction is over, and the frame goes on as the second one. Where memory is out at this
  -- mark, all of the instruction is done, and the frame stops at the instruction's address.
  abbrev pub onward : Frame → Frame → World S → Act S
  onward f g w = marked m (record g { address = f.address }) w (Go (InFrame g))

  -- a transfer: to a target that does not lie ahead it costs an operation
  abbrev pub jumped : Frame → Frame → World S → Act S
  jumped f g w =
      if nat_le g.address f.address
      then charged m (record g { address = f.address }) w (onward f g) else onward f g w

  -- the instruction gives a value
  abbrev pub pushed : Frame → ℕ → List Held → Dynamic → World S → Act S
  pushed f next operands v w = onward f (stepped f next (operands ++ read_write v ∷ [])) w
