-- All can be read exactly where those that are left can.
use Rattle.std.proofs.Common.{◌≡◌, drop}
use Rattle.std.specs.Prelude.{is_some}
use Rattle.grain_means.specs.Rules.{flat_all}
use Rattle.grain_frame.proofs.native_calls.are_readable.Given as goal

abbrev pub invariant-operands : goal.invariant-operands
invariant-operands l =
    is_some (flat_all l.cells (drop l.one-index l.held)) ≡ is_some (flat_all l.cells l.held)
