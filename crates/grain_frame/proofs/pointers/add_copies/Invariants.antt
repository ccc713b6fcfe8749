-- What is left to add goes after what was added.
use Rattle.std.proofs.Common.{◌≡◌, ◌++◌, drop}
use Rattle.grain_means.specs.Rules.{trees_in}
use Rattle.grain_frame.proofs.pointers.add_copies.Given as goal

abbrev pub invariant-values : goal.invariant-values
invariant-values l = (l.pointer.name ≡ l.initial.pointer.name)
    × (l.pointer.curry ++ trees_in (drop l.one-index l.held)
    ≡ l.initial.pointer.curry ++ trees_in l.held)
