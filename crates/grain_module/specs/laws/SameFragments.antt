-- A fragment and its tree give each other back, so fragments are equal where their trees are; and so
-- with items.
use Rattle.std.specs.Prelude.{◌≡◌, List, [], ◌∷◌, refl}
use Rattle.std.proofs.Common.{sym, ap, ◌∙◌}
use Rattle.grain_module.specs.FragmentTree.{FragmentTree, ItemTree, ItemTrees, literal, variable, this, block, binding, evaluation, no_items, more_items, pack_items, unpack_items}
use Rattle.grain_module.specs.FragmentView.{fragment_tree, item_tree}
use Rattle.grain_module.specs.declared.fragments.Fragment.{Fragment}
use Rattle.grain_module.specs.declared.fragments.Fragment.TheVariants.{Literal, Name, This, Block}
use Rattle.grain_module.specs.declared.fragments.FragmentItem.{FragmentItem}
use Rattle.grain_module.specs.declared.fragments.FragmentItem.TheVariants.{Let, Eval}

abbrev pub fragment_of : FragmentTree → Fragment
fragment_of (literal i) = Literal i
fragment_of (variable i) = Name i
fragment_of this = This
fragment_of (block ts) = Block (unpack_items ts)

abbrev pub item_of : ItemTree → FragmentItem
item_of (binding i t) = Let i (fragment_of t)
item_of (evaluation t) = Eval (fragment_of t)

pub unpack-pack_items : (ts : List ItemTree) → unpack_items (pack_items ts) ≡ ts
unpack-pack_items [] = refl
unpack-pack_items (t ∷ ts) = ap (λ l. t ∷ l) (unpack-pack_items ts)

pub pack-unpack_items : (ts : ItemTrees) → pack_items (unpack_items ts) ≡ ts
pack-unpack_items no_items = refl
pack-unpack_items (more_items t ts) = ap (more_items t) (pack-unpack_items ts)

pub fragment_of-fragment_tree : (f : Fragment) → fragment_of (fragment_tree f) ≡ f
fragment_of-fragment_tree (Literal i) = refl
fragment_of-fragment_tree (Name i) = refl
fragment_of-fragment_tree This = refl
fragment_of-fragment_tree (Block ts) = ap Block (unpack-pack_items ts)

pub item_of-item_tree : (item : FragmentItem) → item_of (item_tree item) ≡ item
item_of-item_tree (Let i f) = ap (Let i) (fragment_of-fragment_tree f)
item_of-item_tree (Eval f) = ap Eval (fragment_of-fragment_tree f)

pub fragment_tree-fragment_of : (t : FragmentTree) → fragment_tree (fragment_of t) ≡ t
fragment_tree-fragment_of (literal i) = refl
fragment_tree-fragment_of (variable i) = refl
fragment_tree-fragment_of this = refl
fragment_tree-fragment_of (block ts) = ap block (pack-unpack_items ts)

pub item_tree-item_of : (t : ItemTree) → item_tree (item_of t) ≡ t
item_tree-item_of (binding i t) = ap (binding i) (fragment_tree-fragment_of t)
item_tree-item_of (evaluation t) = ap evaluation (fragment_tree-fragment_of t)

pub fragment_tree_inj : (f g : Fragment) → fragment_tree f ≡ fragment_tree g → f ≡ g
fragment_tree_inj f g h =
    sym (fragment_of-fragment_tree f) ∙ ap fragment_of h ∙ fragment_of-fragment_tree g

pub item_tree_inj : (a b : FragmentItem) → item_tree a ≡ item_tree b → a ≡ b
item_tree_inj a b h = sym (item_of-item_tree a) ∙ ap item_of h ∙ item_of-item_tree b
