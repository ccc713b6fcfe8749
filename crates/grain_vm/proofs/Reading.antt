-- Arguments of a native that a walk needs, as they are read.
use Rattle.std.proofs.Common.{◌≡◌, ◌∙◌, ◌+◌, ℕ, zero, suc, List, [], ◌∷◌, ◌++◌, Option, Some, None, false, map, drop, refl, sym, ap, subst, inl, arith}
use Rattle.std.specs.Prelude.{slice_get}
use Rattle.std.proofs.Math.Seq.{append_snoc}
use Rattle.grain_value.specs.Tree.{Tree}
use Rattle.grain_value.specs.View.{tree, value_of}
use Rattle.grain_value.specs.Cells.{flat}
use Rattle.grain_value.specs.Operands.{read_write, values_in}
use Rattle.grain_value.specs.Writing.{kind_of}
use Rattle.grain_value.specs.laws.Same.{value_of-tree}
use Rattle.grain_value.specs.declared.stores.Cell.{Cell}
use Rattle.grain_value.specs.declared.values.Dynamic.{Dynamic}
use Rattle.grain_value.specs.declared.values.Held.{Held}
use Rattle.grain_fault.specs.declared.places.Position.{Position}
use Rattle.grain_fault.specs.declared.faults.EvalAltResult.{EvalAltResult}
use Rattle.grain_fault.specs.Problems.{problem_of}
use Rattle.grain_host.specs.Law.{Law, native_of}
use Rattle.grain_host.specs.Signatures.{not_found}
use Rattle.grain_means.specs.Driving.{all_given}
use Rattle.grain_means.specs.Rules.Homes.{Home}
use Rattle.grain_means.specs.Rules.Natives.{given}
use Rattle.grain_frame.specs.Natives.{Seeks}
use Rattle.grain_vm.specs.Driving.{lent_from}
use Rattle.grain_frame.specs.declared.native_calls.Sought.TheVariants as sought
use Rattle.grain_means.specs.Rules.{flat_all, flat_before, kinds_in, trees_in, first_is_read_only}

-- what was read, and then what is left
abbrev pub joined : List Held → Option (List Held) → Option (List Held)
joined before None = None
joined before (Some rest) = Some (before ++ rest)

next_suc : (ts : List Tree) (i : ℕ) (t : Tree) → slice_get ts i ≡ Some t →
    drop i ts ≡ t ∷ drop (suc i) ts
next_suc [] i t e = absurd cc
next_suc (s ∷ ts) zero t e = let same : s ≡ t = cc in ap (λ (x : Tree). x ∷ ts) same
next_suc (s ∷ ts) (suc i) t e = next_suc ts i t e

pub next_tree : (ts : List Tree) (i : ℕ) (t : Tree) → slice_get ts i ≡ Some t →
    drop i ts ≡ t ∷ drop (i + 1) ts
next_tree ts i t e = next_suc ts i t e ∙ ap (λ (k : ℕ). t ∷ drop k ts) one where
  one : suc i ≡ i + 1
  one = omega arith

one_more : (before : List Held) (v : Dynamic) (h : Held) (o : Option (List Held)) →
    joined before (flat_before (Some v) h o)
    ≡ joined (before ++ record h { value = v } ∷ []) o
one_more before v h None = refl
one_more before v h (Some rest) = ap Some (sym (append_snoc before (record h { value = v }) rest))

-- one more was read
pub reads_on : (cells : List Cell) (ts : List Tree) (i : ℕ) (d v : Dynamic) (before : List Held) →
    slice_get ts i ≡ Some (tree d) → flat cells d ≡ Some v →
    joined before (flat_all cells (map read_write (map value_of (drop i ts))))
    ≡ joined (before ++ read_write v ∷ [])
    (flat_all cells (map read_write (map value_of (drop (i + 1) ts))))
reads_on cells ts i d v before e read =
    ap (λ (l : List Tree). joined before (flat_all cells (map read_write (map value_of l))))
    (next_tree ts i (tree d) e)
    ∙ ap (λ (x : Dynamic). joined before (flat_before (flat cells x) (read_write x)
    (flat_all cells (map read_write (map value_of (drop (i + 1) ts)))))) (value_of-tree d)
    ∙ ap (λ (o : Option Dynamic). joined before (flat_before o (read_write d)
    (flat_all cells (map read_write (map value_of (drop (i + 1) ts)))))) read
    ∙ one_more before v (read_write d)
    (flat_all cells (map read_write (map value_of (drop (i + 1) ts))))

-- one is a cell whose content is lent
pub reads_none : (cells : List Cell) (ts : List Tree) (i : ℕ) (d : Dynamic) (before : List Held) →
    slice_get ts i ≡ Some (tree d) → flat cells d ≡ None →
    joined before (flat_all cells (map read_write (map value_of (drop i ts)))) ≡ None
reads_none cells ts i d before e read =
    ap (λ (l : List Tree). joined before (flat_all cells (map read_write (map value_of l))))
    (next_tree ts i (tree d) e)
    ∙ ap (λ (x : Dynamic). joined before (flat_before (flat cells x) (read_write x)
    (flat_all cells (map read_write (map value_of (drop (i + 1) ts)))))) (value_of-tree d)
    ∙ ap (λ (o : Option Dynamic). joined before (flat_before o (read_write d)
    (flat_all cells (map read_write (map value_of (drop (i + 1) ts)))))) read

kinds_more : (hs : List Held) (h : Held) → kinds_in (hs ++ h ∷ []) ≡ kinds_in hs ++ kind_of h.value ∷ []
kinds_more [] h = refl
kinds_more (x ∷ hs) h = ap (λ (l : List ℕ). kind_of x.value ∷ l) (kinds_more hs h)

pub given_kinds : (x : Option Held) (hs : List Held) (h : Held) →
    kinds_in (all_given x (hs ++ h ∷ [])) ≡ kinds_in (all_given x hs) ++ kind_of h.value ∷ []
given_kinds None hs h = kinds_more hs h
given_kinds (Some x) hs h = ap (λ (l : List ℕ). kind_of x.value ∷ l) (kinds_more hs h)

pub trees_more : (hs : List Held) (h : Held) → trees_in (hs ++ h ∷ []) ≡ trees_in hs ++ tree h.value ∷ []
trees_more [] h = refl
trees_more (x ∷ hs) h = ap (λ (l : List Tree). tree x.value ∷ l) (trees_more hs h)

pub given_flag : (x : Option Held) (hs : List Held) (h : Held) → h.read_only ≡ false →
    first_is_read_only (all_given x (hs ++ h ∷ [])) ≡ first_is_read_only (all_given x hs)
given_flag None [] h e = e
given_flag None (y ∷ hs) h e = refl
given_flag (Some x) hs h e = refl

-- one value more was copied, and those that are left come after it
pub copied_on : (all more ts : List Tree) (i : ℕ) (t : Tree) (whole : List Tree) →
    more ≡ all ++ t ∷ [] → slice_get ts i ≡ Some t → all ++ drop i ts ≡ whole →
    more ++ drop (i + 1) ts ≡ whole
copied_on all more ts i t whole is at was =
    ap (λ (l : List Tree). l ++ drop (i + 1) ts) is
    ∙ append_snoc all t (drop (i + 1) ts)
    ∙ ap (λ (l : List Tree). all ++ l) (sym (next_tree ts i t at)) ∙ was

-- the trees of what is held are its values
values_are : (hs : List Held) → map value_of (trees_in hs) ≡ values_in hs
values_are [] = refl
values_are (h ∷ hs) = rw (value_of-tree h.value, values_are hs) refl

-- all that a native is given, where what it is lent stands anywhere
pub given_from : (home : Home) (x : Option Held) (args : List Held) →
    given (lent_from home x) args ≡ all_given x args
given_from home None args = refl
given_from home (Some h) args = refl

-- there is no native for what is lent and these arguments
pub seeks_absent : {H : Type 0} (law : Law H) (host : H) (name word : List ℕ) (x : Option Held)
    (args : List Held) (home : Home) (kinds : List ℕ) (all : List Tree) (q : Position)
    (f : EvalAltResult) → kinds ≡ kinds_in (all_given x args) →
    native_of law host word kinds ≡ None → word ≡ name →
    problem_of f ≡ not_found name (map value_of all) q → all ≡ trees_in (all_given x args) →
    Seeks law host name (lent_from home x) args q (sought.Fault f)
seeks_absent law host name word x args home kinds all q f kinds_are none same is all_are = inl (
  ap (λ (l : List Held). native_of law host name (kinds_in l)) (given_from home x args)
      ∙ sym (ap (native_of law host name) kinds_are)
      ∙ subst (λ (w : List ℕ). native_of law host w kinds ≡ None) same none,
  is
      ∙ ap (λ (vs : List Dynamic). not_found name vs q)
      (ap (λ (ts : List Tree). map value_of ts) all_are ∙ values_are (all_given x args))
      ∙ sym (ap (λ (l : List Held). not_found name (values_in l) q) (given_from home x args)),
)
