-- Each block inside a list of items weighs less.
use Rattle.std.specs.Prelude.{◌≤◌, max, List, [], ◌∷◌}
use Rattle.std.proofs.Common.{arith}
use denote.Param.Weighed.{most}
use Rattle.grain_module.specs.FragmentTree.{fragment_weight, item_weight, item_weights, pack_items}
use Rattle.grain_module.specs.FragmentView.{fragment_tree, item_tree, item_trees}
use Rattle.grain_module.specs.declared.fragments.Fragment.{Fragment}
use Rattle.grain_module.specs.declared.fragments.Fragment.TheVariants.{Literal, Name, This, Block}
use Rattle.grain_module.specs.declared.fragments.FragmentItem.{FragmentItem}
use Rattle.grain_module.specs.declared.fragments.FragmentItem.TheVariants.{Let, Eval}
use Rattle.grain_module.specs.declared.fragments.Items.TheDeep.{deep-Fragment, deep-FragmentItem}

pub deep_le-fragment_weight : (f : Fragment) → deep-Fragment f ≤ fragment_weight (fragment_tree f)
deep_le-fragment_weight (Literal i) = omega arith
deep_le-fragment_weight (Name i) = omega arith
deep_le-fragment_weight This = omega arith
deep_le-fragment_weight (Block ts) = omega arith

pub deep_le-item_weight : (item : FragmentItem) → deep-FragmentItem item ≤
    item_weight (item_tree item)
deep_le-item_weight (Let i f) = omega (arith, deep_le-fragment_weight f)
deep_le-item_weight (Eval f) = omega (arith, deep_le-fragment_weight f)

pub most_le-item_weights : (items : List FragmentItem) →
    most (λ item. deep-FragmentItem item) items ≤ item_weights (pack_items (item_trees items))
most_le-item_weights [] = omega arith
most_le-item_weights (item ∷ items) =
    omega (arith, deep_le-item_weight item, most_le-item_weights items)

pub depth_le-item_weights : (items : List FragmentItem) →
    max (most (λ item. deep-FragmentItem item) items) 0 ≤
    item_weights (pack_items (item_trees items))
depth_le-item_weights items = omega (arith, most_le-item_weights items)
