-- The first tokens are written.
use Rattle.std.proofs.Common.{◌≡◌, [], take}
use Rattle.std.specs.Fmt.{HasWritten, IsPlainFormatter}
use denote.Text.{Utf8}
use denote.Shadow.{shadow}
use Rattle.grain_fault.specs.Table.{spaced}
use Rattle.grain_fault.proofs.Spaced.{lead_from}
use Rattle.grain_fault.proofs.fault_parts.SpacedDisplay.fmt.Given as goal

abbrev pub invariant-loop-index : goal.invariant-loop-index
invariant-loop-index g l =
    shadow (Utf8 l.lead) × (l.lead ≡ lead_from [] l.index) ×
    (IsPlainFormatter l.initial.f → HasWritten g.W.Write.write_str_gives l.initial.f
    (spaced [] (take l.index l.values)) l.f)
