-- The lines that are left decide.
use Rattle.std.proofs.Common.{◌≡◌, drop}
use Rattle.grain_host.specs.Stops.{stop_at}
use Rattle.grain_host.proofs.stop_lines.StopLines.token.Given as goal

abbrev pub invariant-loop-line : goal.invariant-loop-line
invariant-loop-line l =
    stop_at l.count (drop l.line-index l.line-items) ≡ stop_at l.count l.self
