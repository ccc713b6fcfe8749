-- What is left to copy comes after what was copied.
use Rattle.std.proofs.Common.{◌≡◌, ◌++◌, drop}
use Rattle.grain_means.specs.Rules.{trees_in}
use Rattle.grain_vm.proofs.receivers.followed_by.Given as goal

abbrev pub invariant-held : goal.invariant-held
invariant-held l = l.all ++ trees_in (drop l.one-index l.held) ≡ l.fn.values ++ trees_in l.held
