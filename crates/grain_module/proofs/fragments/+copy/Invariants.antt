use Rattle.std.proofs.Common.{◌≡◌, take}
use Rattle.grain_module.specs.FragmentView.{item_trees}
use Rattle.grain_module.proofs.fragments.+copy.Given as goal

abbrev pub invariant-Items::copy-loop-item : goal.invariant-Items::copy-loop-item
invariant-Items::copy-loop-item l = item_trees l.items.items ≡ item_trees (take l.item-index l.item-items)
