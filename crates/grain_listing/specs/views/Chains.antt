-- Flags, positions and roots, with the characters that are left.
use Rattle.std.specs.Prelude.{ℕ, List}
use Rattle.std.specs.Borrow.{Bor}
use Rattle.grain_fault.specs.declared.places.Position.{Position}
use Rattle.grain_program.specs.declared.code.chains.StepFlags.{StepFlags}
use Rattle.grain_program.specs.declared.code.chains.Root.{Root}

abbrev pub flags_view : StepFlags × Bor (List ℕ) → StepFlags × List ℕ
flags_view x = (x.0, x.1.now)

abbrev pub position_view : Position × Bor (List ℕ) → Position × List ℕ
position_view x = (x.0, x.1.now)

abbrev pub root_view : Root × Bor (List ℕ) → Root × List ℕ
root_view x = (x.0, x.1.now)
