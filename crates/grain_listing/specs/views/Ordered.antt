-- The positions that an assembler has, by ascending address.
use Rattle.std.specs.Prelude.{length}
use Rattle.grain_program.specs.Recorded.{Ascends}
use Rattle.grain_listing.specs.views.Assembling.{AssemblerView}

-- the addresses ascend strictly, and are below the code's length
abbrev pub IsOrdered : AssemblerView → Type 0
IsOrdered v = Ascends 0 (length v.code) v.positions
