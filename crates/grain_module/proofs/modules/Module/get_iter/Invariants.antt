-- The first that fits is among those that are left.
use Rattle.std.proofs.Common.{◌≡◌, drop}
use Rattle.grain_module.specs.Modules.{iterator_of}
use Rattle.grain_module.proofs.modules.Module.get_iter.Given as goal

abbrev pub invariant-loop-iterator : goal.invariant-loop-iterator
invariant-loop-iterator l =
    iterator_of l.kind (drop l.iterator-index l.iterator-items) ≡ iterator_of l.kind l.self.iterators
