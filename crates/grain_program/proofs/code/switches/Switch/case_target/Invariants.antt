-- No case so far is one of the value.
use Rattle.std.proofs.Common.{◌≡◌, drop}
use Rattle.grain_program.specs.Switches.{case_target}
use Rattle.grain_program.proofs.code.switches.Switch.case_target.Given as goal

abbrev pub invariant-loop-case : goal.invariant-loop-case
invariant-loop-case l =
    case_target l.value (drop l.case-index l.cases) ≡ case_target l.value l.cases
