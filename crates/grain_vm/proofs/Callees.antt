-- What an instruction that may have a receiver calls, and copies of values as they are read.
use Rattle.std.proofs.Common.{◌≡◌, ◌∙◌, ◌+◌, ℕ, suc, List, [], ◌∷◌, ◌++◌, Some, None, drop, refl, sym, ap, subst}
use Rattle.std.specs.Prelude.{slice_get}
use Rattle.grain_value.specs.Tree.{Tree}
use Rattle.grain_value.specs.View.{tree, value_of}
use Rattle.grain_value.specs.Operands.{read_write}
use Rattle.grain_value.specs.laws.Same.{value_of-tree}
use Rattle.grain_value.specs.Cells.{flat}
use Rattle.grain_value.specs.Looking.{pointer_of}
use Rattle.grain_value.specs.declared.stores.Cell.{Cell}
use Rattle.grain_value.specs.declared.values.Dynamic.{Dynamic}
use Rattle.grain_value.specs.declared.values.Held.{Held}
use Rattle.grain_program.specs.View.{View}
use Rattle.grain_means.specs.Rules.{flat_all, operand_under}
use Rattle.grain_vm.specs.Methods.{given_to}
use Rattle.grain_vm.specs.Receivers.{called, first_in}
use Rattle.grain_vm.proofs.Reading.{joined, reads_on}

-- what is under the arguments is no pointer, so that the first argument is looked at
pub first_asked : (p : View) (cells : List Cell) (ops : List Held) (address count k : ℕ) (v : Dynamic) →
    count ≡ suc k → flat cells (operand_under count ops).value ≡ Some v → pointer_of v ≡ None →
    called p cells ops address count ≡ first_in p address k (flat cells (operand_under k ops).value)
first_asked p cells ops address count k v more read none =
    subst (λ (i : ℕ). flat cells (operand_under i ops).value ≡ Some v →
    called p cells ops address i ≡ first_in p address k (flat cells (operand_under k ops).value))
    (sym more) (λ there. rw (there, none) refl) read

-- ---- copies

given_more : (ts : List Tree) (d : Dynamic) →
    given_to (ts ++ tree d ∷ []) ≡ given_to ts ++ read_write d ∷ []
given_more [] d = ap (λ (x : Dynamic). read_write x ∷ []) (value_of-tree d)
given_more (t ∷ ts) d = ap (λ (l : List Held). read_write (value_of t) ∷ l) (given_more ts d)

-- one value more was copied as it is read
pub copies_on : (cells : List Cell) (ts : List Tree) (i : ℕ) (d v : Dynamic) (all more : List Tree) →
    more ≡ all ++ tree v ∷ [] → slice_get ts i ≡ Some (tree d) → flat cells d ≡ Some v →
    joined (given_to all) (flat_all cells (given_to (drop i ts)))
    ≡ joined (given_to more) (flat_all cells (given_to (drop (i + 1) ts)))
copies_on cells ts i d v all more is at read =
    reads_on cells ts i d v (given_to all) at read
    ∙ ap (λ (before : List Held). joined before (flat_all cells (given_to (drop (i + 1) ts))))
    (sym (ap given_to is ∙ given_more all v))
