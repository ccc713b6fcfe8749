-- The code of a tree, by which a proof tells trees apart: a tree is stored as a ghost value that
-- gives it back.
use Rattle.std.specs.Prelude.{◌≡◌, ℕ, zero, suc, ℤ, pos, negsuc, Bool, true, false, List, [], ◌∷◌, refl}
use Rattle.std.specs.Coded.{Coded, code_by, coded_list, coded×, coded_ℕ}
use base.Stored.{Gv, gnil, gnum, gcons}
use Rattle.grain_value.specs.Tree.{Tree, Trees, Fields, unit, boolean, integer, character, text, array, blob, dict, pointer, range, foreign, cell, no_trees, more_trees, no_fields, more_fields}

abbrev num : Gv → ℕ
num gnil = 0
num (gnum n) = n
num (gcons a b) = 0

abbrev head : Gv → Gv
head gnil = gnil
head (gnum n) = gnil
head (gcons a b) = a

abbrev tail : Gv → Gv
tail gnil = gnil
tail (gnum n) = gnil
tail (gcons a b) = b

abbrev bit : Bool → ℕ
bit false = 0
bit true = 1

abbrev unbit : ℕ → Bool
unbit zero = false
unbit (suc n) = true

unbit-bit : (b : Bool) → unbit (bit b) ≡ b
unbit-bit false = refl
unbit-bit true = refl

abbrev code_z : ℤ → Gv
code_z (pos n) = gcons gnil (gnum n)
code_z (negsuc n) = gcons (gnum 1) (gnum n)

abbrev by_sign : Gv → ℕ → ℤ
by_sign gnil n = pos n
by_sign (gnum s) n = negsuc n
by_sign (gcons a b) n = negsuc n

abbrev back_z : Gv → ℤ
back_z g = by_sign (head g) (num (tail g))

back_z-code_z : (z : ℤ) → back_z (code_z z) ≡ z
back_z-code_z (pos n) = refl
back_z-code_z (negsuc n) = refl

abbrev code_n : List ℕ → Gv
code_n [] = gnil
code_n (n ∷ ns) = gcons (gnum n) (code_n ns)

abbrev back_n : Gv → List ℕ
back_n gnil = []
back_n (gnum n) = []
back_n (gcons a b) = num a ∷ back_n b

back_n-code_n : (ns : List ℕ) → back_n (code_n ns) ≡ ns
back_n-code_n [] = refl
back_n-code_n (n ∷ ns) = λ i. n ∷ back_n-code_n ns i

abbrev mutual
  code_tree : Tree → Gv
  code_tree unit = gnil
  code_tree (boolean b) = gcons (gnum 0) (gnum (bit b))
  code_tree (integer z) = gcons (gnum 1) (code_z z)
  code_tree (character c) = gcons (gnum 2) (gnum c)
  code_tree (text s) = gcons (gnum 3) (code_n s)
  code_tree (array ts) = gcons (gnum 4) (code_trees ts)
  code_tree (blob s) = gcons (gnum 5) (code_n s)
  code_tree (dict es) = gcons (gnum 6) (code_fields es)
  code_tree (pointer name ts) = gcons (gnum 7) (gcons (code_n name) (code_trees ts))
  code_tree (range a b i) = gcons (gnum 8) (gcons (gcons (code_z a) (code_z b)) (gnum (bit i)))
  code_tree (foreign k n) = gcons (gnum 9) (gcons (gnum k) (gnum n))
  code_tree (cell n) = gcons (gnum 10) (gnum n)

  code_trees : Trees → Gv
  code_trees no_trees = gnil
  code_trees (more_trees t ts) = gcons (code_tree t) (code_trees ts)

  code_fields : Fields → Gv
  code_fields no_fields = gnil
  code_fields (more_fields k t es) = gcons (gcons (code_n k) (code_tree t)) (code_fields es)

abbrev all_but_first : Trees → Trees
all_but_first no_trees = no_trees
all_but_first (more_trees t ts) = ts

abbrev by_tag : ℕ → Gv → Trees → Fields → Tree
by_tag zero g ts es = boolean (unbit (num g))
by_tag (suc zero) g ts es = integer (back_z g)
by_tag (suc (suc zero)) g ts es = character (num g)
by_tag (suc (suc (suc zero))) g ts es = text (back_n g)
by_tag (suc (suc (suc (suc zero)))) g ts es = array ts
by_tag (suc (suc (suc (suc (suc zero))))) g ts es = blob (back_n g)
by_tag (suc (suc (suc (suc (suc (suc zero)))))) g ts es = dict es
by_tag (suc (suc (suc (suc (suc (suc (suc zero))))))) g ts es =
    pointer (back_n (head g)) (all_but_first ts)
by_tag (suc (suc (suc (suc (suc (suc (suc (suc zero)))))))) g ts es =
    range (back_z (head (head g))) (back_z (tail (head g))) (unbit (num (tail g)))
by_tag (suc (suc (suc (suc (suc (suc (suc (suc (suc zero))))))))) g ts es =
    foreign (num (head g)) (num (tail g))
by_tag (suc (suc (suc (suc (suc (suc (suc (suc (suc (suc n)))))))))) g ts es = cell (num g)

abbrev mutual
  back_tree : Gv → Tree
  back_tree gnil = unit
  back_tree (gnum n) = unit
  back_tree (gcons a b) = by_tag (num a) b (back_trees b) (back_fields b)

  back_trees : Gv → Trees
  back_trees gnil = no_trees
  back_trees (gnum n) = no_trees
  back_trees (gcons a b) = more_trees (back_tree a) (back_trees b)

  back_fields : Gv → Fields
  back_fields gnil = no_fields
  back_fields (gnum n) = no_fields
  back_fields (gcons gnil es) = no_fields
  back_fields (gcons (gnum n) es) = no_fields
  back_fields (gcons (gcons k t) es) = more_fields (back_n k) (back_tree t) (back_fields es)

mutual
  pub back_tree-code_tree : (t : Tree) → back_tree (code_tree t) ≡ t
  back_tree-code_tree unit = refl
  back_tree-code_tree (boolean b) = λ i. boolean (unbit-bit b i)
  back_tree-code_tree (integer z) = λ i. integer (back_z-code_z z i)
  back_tree-code_tree (character c) = refl
  back_tree-code_tree (text s) = λ i. text (back_n-code_n s i)
  back_tree-code_tree (array ts) = λ i. array (back_trees-code_trees ts i)
  back_tree-code_tree (blob s) = λ i. blob (back_n-code_n s i)
  back_tree-code_tree (dict es) = λ i. dict (back_fields-code_fields es i)
  back_tree-code_tree (pointer name ts) =
      λ i. pointer (back_n-code_n name i) (back_trees-code_trees ts i)
  back_tree-code_tree (range a b c) =
      λ i. range (back_z-code_z a i) (back_z-code_z b i) (unbit-bit c i)
  back_tree-code_tree (foreign k n) = refl
  back_tree-code_tree (cell n) = refl

  pub back_trees-code_trees : (ts : Trees) → back_trees (code_trees ts) ≡ ts
  back_trees-code_trees no_trees = refl
  back_trees-code_trees (more_trees t ts) =
      λ i. more_trees (back_tree-code_tree t i) (back_trees-code_trees ts i)

  pub back_fields-code_fields : (es : Fields) → back_fields (code_fields es) ≡ es
  back_fields-code_fields no_fields = refl
  back_fields-code_fields (more_fields k t es) =
      λ i. more_fields (back_n-code_n k i) (back_tree-code_tree t i) (back_fields-code_fields es i)

abbrev coded_ghost : Coded Gv
coded_ghost = record { code = λ g. g; inj = λ x y p. p }

abbrev pub coded_tree : Coded Tree
coded_tree = code_by Gv coded_ghost code_tree back_tree back_tree-code_tree

abbrev pub coded_array : Coded (List Tree)
coded_array = coded_list coded_tree

abbrev pub coded_map : Coded (List (List ℕ × Tree))
coded_map = coded_list (coded× (coded_list coded_ℕ) coded_tree)
