-- The homes so far, and those of the switches that are left, are all of them.
use Rattle.std.proofs.Common.{◌≡◌, ◌++◌, map, drop}
use Rattle.grain_program.specs.Owners.{home_of}
use Rattle.grain_program.proofs.verifier.homes.homes_of.Given as goal

abbrev pub invariant-loop-switch : goal.invariant-loop-switch
invariant-loop-switch l = l.homes.items ++ map (home_of l.owners) (drop l.switch-index l.switches)
    ≡ map (home_of l.owners) l.switches
