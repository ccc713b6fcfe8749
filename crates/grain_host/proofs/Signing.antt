-- The types of values that stand as trees.
use Rattle.std.proofs.Common.{◌≡◌, ◌∙◌, ◌+◌, ℕ, zero, suc, List, [], ◌∷◌, ◌++◌, Some, None, map, drop, refl, ap, add-one, append_assoc}
use Rattle.std.specs.Prelude.{slice_get, codes}
use Rattle.grain_value.specs.Tree.{Tree}
use Rattle.grain_value.specs.View.{tree, value_of}
use Rattle.grain_value.specs.laws.Same.{value_of-tree}
use Rattle.grain_value.specs.Writing.{type_name_of}
use Rattle.grain_value.specs.declared.values.Dynamic.{Dynamic}
use Rattle.grain_host.specs.Signatures.{type_at, types_text}

same_some : {A : Type 0} {a b : A} → Some a ≡ Some b → a ≡ b
same_some e = cc

-- the value at a place has its type
pub type_there : (ts : List Tree) (i : ℕ) (d : Dynamic) → slice_get ts i ≡ Some (tree d) →
    type_at i (map value_of ts) ≡ type_name_of d
type_there [] i d e = absurd cc
type_there (t ∷ ts) zero d e =
    ap (λ (q : Tree). type_name_of (value_of q)) (same_some e) ∙ ap type_name_of (value_of-tree d)
type_there (t ∷ ts) (suc i) d e = type_there ts i d e

-- where there is none, nothing is named
pub type_nowhere : (ts : List Tree) (i : ℕ) → slice_get ts i ≡ None →
    type_at i (map value_of ts) ≡ []
type_nowhere [] zero e = refl
type_nowhere [] (suc i) e = refl
type_nowhere (t ∷ ts) zero e = absurd cc
type_nowhere (t ∷ ts) (suc i) e = type_nowhere ts i e

-- the values from a place on begin with the one that stands there
from_there : (ts : List Tree) (i : ℕ) (d : Dynamic) → slice_get ts i ≡ Some (tree d) →
    map value_of (drop i ts) ≡ d ∷ map value_of (drop (suc i) ts)
from_there [] i d e = absurd cc
from_there (t ∷ ts) zero d e = ap (λ (v : Dynamic). v ∷ map value_of ts)
    (ap value_of (same_some e) ∙ value_of-tree d)
from_there (t ∷ ts) (suc i) d e = from_there ts i d e

-- one type more is written
pub next_type : (ts : List Tree) (i : ℕ) (d : Dynamic) (lead out one two : List ℕ) →
    slice_get ts i ≡ Some (tree d) → one ≡ out ++ lead → two ≡ one ++ type_name_of d →
    two ++ types_text (codes ", ") (map value_of (drop (i + 1) ts))
    ≡ out ++ types_text lead (map value_of (drop i ts))
next_type ts i d lead out one two e e1 e2 =
    rw (add-one, from_there ts i d e, e2, e1) (simp append_assoc)
