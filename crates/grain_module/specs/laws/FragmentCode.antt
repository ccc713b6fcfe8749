-- The code of a list of items, by which a proof tells lists of items apart: it is stored as a ghost
-- value that gives it back.
use Rattle.std.specs.Prelude.{◌≡◌, List, refl}
use Rattle.std.specs.Coded.{Coded, code_by, coded_list}
use base.Stored.{Gv, gnil, gnum, gcons}
use denote.Struct.Codes.{itself}
use Rattle.grain_module.specs.FragmentTree.{FragmentTree, ItemTree, ItemTrees, literal, variable, this, block, binding, evaluation, no_items, more_items}

abbrev mutual
  code_fragment : FragmentTree → Gv
  code_fragment (literal i) = gnum i
  code_fragment (variable i) = gcons gnil (gnum i)
  code_fragment this = gnil
  code_fragment (block ts) = gcons (gnum 0) (code_items ts)

  code_item : ItemTree → Gv
  code_item (binding i t) = gcons (gnum i) (code_fragment t)
  code_item (evaluation t) = gcons gnil (code_fragment t)

  code_items : ItemTrees → Gv
  code_items no_items = gnil
  code_items (more_items t ts) = gcons (code_item t) (code_items ts)

abbrev mutual
  back_fragment : Gv → FragmentTree
  back_fragment gnil = this
  back_fragment (gnum i) = literal i
  back_fragment (gcons gnil gnil) = this
  back_fragment (gcons gnil (gnum i)) = variable i
  back_fragment (gcons gnil (gcons a b)) = this
  back_fragment (gcons (gnum n) ts) = block (back_items ts)
  back_fragment (gcons (gcons a b) ts) = this

  back_item : Gv → ItemTree
  back_item gnil = evaluation this
  back_item (gnum n) = evaluation this
  back_item (gcons gnil t) = evaluation (back_fragment t)
  back_item (gcons (gnum i) t) = binding i (back_fragment t)
  back_item (gcons (gcons a b) t) = evaluation this

  back_items : Gv → ItemTrees
  back_items gnil = no_items
  back_items (gnum n) = no_items
  back_items (gcons t ts) = more_items (back_item t) (back_items ts)

mutual
  pub back_fragment-code_fragment : (t : FragmentTree) → back_fragment (code_fragment t) ≡ t
  back_fragment-code_fragment (literal i) = refl
  back_fragment-code_fragment (variable i) = refl
  back_fragment-code_fragment this = refl
  back_fragment-code_fragment (block ts) = λ i. block (back_items-code_items ts i)

  pub back_item-code_item : (t : ItemTree) → back_item (code_item t) ≡ t
  back_item-code_item (binding n t) = λ i. binding n (back_fragment-code_fragment t i)
  back_item-code_item (evaluation t) = λ i. evaluation (back_fragment-code_fragment t i)

  pub back_items-code_items : (ts : ItemTrees) → back_items (code_items ts) ≡ ts
  back_items-code_items no_items = refl
  back_items-code_items (more_items t ts) =
      λ i. more_items (back_item-code_item t i) (back_items-code_items ts i)

abbrev pub coded_item : Coded ItemTree
coded_item = code_by Gv itself code_item back_item back_item-code_item

abbrev pub coded_items : Coded (List ItemTree)
coded_items = coded_list coded_item
