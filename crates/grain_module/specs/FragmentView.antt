-- The tree of a fragment, and that of an item of a block.
use Rattle.std.specs.Prelude.{List, map}
use Rattle.grain_module.specs.FragmentTree.{FragmentTree, ItemTree, literal, variable, this, block, binding, evaluation, pack_items}
use Rattle.grain_module.specs.declared.fragments.Fragment.{Fragment}
use Rattle.grain_module.specs.declared.fragments.Fragment.TheVariants.{Literal, Name, This, Block}
use Rattle.grain_module.specs.declared.fragments.FragmentItem.{FragmentItem}
use Rattle.grain_module.specs.declared.fragments.FragmentItem.TheVariants.{Let, Eval}

abbrev pub fragment_tree : Fragment → FragmentTree
fragment_tree (Literal i) = literal i
fragment_tree (Name i) = variable i
fragment_tree This = this
fragment_tree (Block ts) = block (pack_items ts)

abbrev pub item_tree : FragmentItem → ItemTree
item_tree (Let i f) = binding i (fragment_tree f)
item_tree (Eval f) = evaluation (fragment_tree f)

abbrev pub item_trees : List FragmentItem → List ItemTree
item_trees items = map item_tree items
