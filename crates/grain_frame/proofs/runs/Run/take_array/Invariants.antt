-- What was taken so far, and what is left of it, are all elements.
use Rattle.std.proofs.Common.{◌≡◌, ◌++◌, List, Some, length, reverse}
use Rattle.grain_value.specs.Operands.{arguments}
use Rattle.grain_value.specs.declared.values.Held.{Held}
use Rattle.grain_means.specs.Rules.{flat_all, trees_in}
use Rattle.grain_frame.proofs.runs.Run.take_array.Given as goal

abbrev pub invariant-elements : goal.invariant-elements
invariant-elements g l = (left : List Held)
    × (flat_all l.fn.self.cells (reverse l.taken.items) ≡ Some left)
    × ((args : List Held) →
    flat_all l.fn.self.cells (arguments l.fn.count l.fn.self.stacks.operands) ≡ Some args →
    l.array ++ trees_in left ≡ trees_in args)

abbrev pub decreases-elements : goal.decreases-elements
decreases-elements g l = length l.taken.items
