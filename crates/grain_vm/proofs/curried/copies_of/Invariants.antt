-- What is left to copy comes after what was copied.
use Rattle.std.proofs.Common.{◌≡◌, ◌++◌, drop}
use Rattle.grain_vm.proofs.curried.copies_of.Given as goal

abbrev pub invariant-curried : goal.invariant-curried
invariant-curried l = l.all ++ drop l.index l.curry ≡ l.curry

abbrev pub invariant-others : goal.invariant-others
invariant-others l = l.all ++ drop l.index l.fn.others ≡ l.curry ++ l.fn.others
