use Rattle.std.proofs.Common.{◌≡◌, drop}
use Rattle.grain_program.specs.Fields.{present}
use Rattle.grain_listing.specs.Instructions.{kinds_of}
use Rattle.grain_listing.specs.views.Assembling.{put_operands}
use Rattle.grain_listing.specs.views.AssemblerView.{assembler_view}
use Rattle.grain_listing.proofs.assembler.Assembler.put_operands.Given as goal

abbrev pub invariant-loop-place : goal.invariant-loop-place
invariant-loop-place l =
    put_operands l.address (kinds_of (present (drop l.place-index l.places))) l.rest
    (assembler_view l.self) ≡
    put_operands l.address (kinds_of (present l.places)) l.line (assembler_view l.initial.self)
