-- The innermost wrappers are written.
use Rattle.std.proofs.Common.{flat_map, map}
use Rattle.std.specs.Fmt.{HasWritten, IsPlainFormatter}
use Rattle.grain_fault.specs.Wrappers.{added_by}
use Rattle.grain_fault.proofs.wrappers.UnwrappedDisplay.fmt.Given as goal

abbrev pub invariant-loop-wrapper : goal.invariant-loop-wrapper
invariant-loop-wrapper g l =
    IsPlainFormatter l.initial.f → HasWritten g.W.Write.write_str_gives l.initial.f
    (flat_map added_by (map (λ w. w.now) l.yielded)) l.f
