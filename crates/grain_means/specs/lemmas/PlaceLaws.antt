-- Values in their places: what is put is there, putting twice is putting once, and what is there may be
-- put; also among the roots of a walk.
use Rattle.std.proofs.Common.{◌≡◌, ℕ, zero, suc, ◌+◌, List, [], ◌∷◌, ◌++◌, Option, Some, None, Bool, Result, Ok, Err, is_ok, length, take, refl, ap, sym, ◌∙◌, arith, option_map}
use Rattle.std.specs.Prelude.{slice_get, slice_set}
use Rattle.grain_value.specs.Tree.{Tree}
use Rattle.grain_value.specs.declared.values.Dynamic.{Dynamic}
use Rattle.grain_value.specs.declared.values.Held.{Held}
use Rattle.grain_value.specs.View.{tree, value_of}
use Rattle.grain_value.specs.laws.Same.{tree-value_of, value_of-tree}
use Rattle.grain_value.specs.Paths.{at, set_child, Leads, put_value}
use Rattle.grain_value.specs.Paths.{put as put_tree}
use Rattle.grain_value.specs.declared.values.paths.PathStep.{PathStep}
use Rattle.grain_value.specs.declared.values.value_faults.ValueFault.{ValueFault}
use Rattle.grain_value.specs.laws.PathSteps.{at-step, put-step, leads-found}
use Rattle.grain_value.specs.laws.PathLaws.{at-put, put-put, put-at}
use Rattle.grain_means.specs.Worlds.{Place}
use Rattle.grain_means.specs.Places.{or_unit, reached, along, find, put, put_held}

none-some : {A B : Type 0} (a : A) → None ≡ Some a → B
none-some a e = cc

pub some-inj : {A : Type 0} {a b : A} → Some a ≡ Some b → a ≡ b
some-inj e = cc

-- a held value of this flag
abbrev pub flagged : Bool → Dynamic → Held
flagged b v = record { value = v; read_only = b }

-- along a path
found-ok : (b : Bool) (r : Result Tree ValueFault) (g : Held) →
    option_map (flagged b) (reached r) ≡ Some g → r ≡ Ok (tree g.value)
found-ok b (Ok t) g e = ap Ok (sym (tree-value_of t) ∙ ap (λ (h : Held). tree h.value) (some-inj e))
found-ok b (Err x) g e = none-some g e

found-flag : (b : Bool) (r : Result Tree ValueFault) (g : Held) →
    option_map (flagged b) (reached r) ≡ Some g → b ≡ g.read_only
found-flag b (Ok t) g e = ap (λ (h : Held). h.read_only) (some-inj e)
found-flag b (Err x) g e = none-some g e

pub along-ok : (path : List PathStep) (h g : Held) → along path (Some h) ≡ Some g →
    at path (tree h.value) ≡ Ok (tree g.value)
along-ok path h g e = found-ok h.read_only (at path (tree h.value)) g e

-- what stands in a root has the root's flag
pub along-flag : (path : List PathStep) (h g : Held) → along path (Some h) ≡ Some g →
    h.read_only ≡ g.read_only
along-flag path h g e = found-flag h.read_only (at path (tree h.value)) g e

pub ok-along : (path : List PathStep) (h : Held) (v : Dynamic) →
    at path (tree h.value) ≡ Ok (tree v) → along path (Some h) ≡ Some (record h { value = v })
ok-along path h v e =
    ap (λ r. option_map (flagged h.read_only) (reached r)) e
    ∙ ap (λ d. Some (flagged h.read_only d)) (value_of-tree v)

leads-ok : (path : List PathStep) (h g : Held) → along path (Some h) ≡ Some g →
    Leads path (tree h.value)
leads-ok path h g e = ap is_ok (along-ok path h g e)

pub along-put : (path : List PathStep) (h g : Held) (v : Dynamic) → along path (Some h) ≡ Some g →
    along path (Some (put_held path v h)) ≡ Some (record h { value = v })
along-put path h g v e =
    ok-along path (put_held path v h) v
    (ap (at path) (tree-value_of (put_tree path (tree v) (tree h.value)))
    ∙ at-put path (tree h.value) (tree v) (leads-ok path h g e))

pub put-along : (path : List PathStep) (h g : Held) → along path (Some h) ≡ Some g →
    put_held path g.value h ≡ h
put-along path h g e =
    ap (flagged h.read_only) (ap value_of (put-at path (tree h.value) (tree g.value)
    (along-ok path h g e)) ∙ value_of-tree h.value)

pub put-again : (path : List PathStep) (h g : Held) (a b : Dynamic) → along path (Some h) ≡ Some g →
    put_held path b (put_held path a h) ≡ put_held path b h
put-again path h g a b e =
    ap (flagged h.read_only)
    (ap (λ x. value_of (put_tree path (tree b) x)) (tree-value_of (put_tree path (tree a) (tree h.value)))
    ∙ ap value_of (put-put path (tree h.value) (tree a) (tree b) (leads-ok path h g e)))

here-same : (t c : Tree) → at [] t ≡ Ok c → t ≡ c
here-same t c e = cc

pub at-further : (p q : List PathStep) (t c : Tree) → at p t ≡ Ok c → at (p ++ q) t ≡ at q c
at-further [] q t c e = ap (at q) (here-same t c e)
at-further (s ∷ p) q t c e =
    let f = leads-found s p t (ap is_ok e) in
    at-step s (p ++ q) t f.0 f.1 ∙ at-further p q f.0 c (sym (at-step s p t f.0 f.1) ∙ e)

pub put-further : (p q : List PathStep) (v t c : Tree) → at p t ≡ Ok c →
    put_tree (p ++ q) v t ≡ put_tree p (put_tree q v c) t
put-further [] q v t c e = ap (put_tree q v) (here-same t c e)
put-further (s ∷ p) q v t c e =
    let f = leads-found s p t (ap is_ok e) in
    put-step s (p ++ q) v t f.0 f.1
    ∙ ap (λ x. set_child s x t) (put-further p q v f.0 c (sym (at-step s p t f.0 f.1) ∙ e))
    ∙ sym (put-step s p (put_tree q v c) t f.0 f.1)

pub along-further : (p q : List PathStep) (h g : Held) → along p (Some h) ≡ Some g →
    along (p ++ q) (Some h) ≡ along q (Some g)
along-further p q h g e =
    ap (λ r. option_map (flagged h.read_only) (reached r))
    (at-further p q (tree h.value) (tree g.value) (along-ok p h g e))
    ∙ ap (λ b. option_map (flagged b) (reached (at q (tree g.value)))) (along-flag p h g e)

pub put-deeper : (p q : List PathStep) (v : Dynamic) (h g : Held) → along p (Some h) ≡ Some g →
    put_held (p ++ q) v h ≡ put_held p (put_value q v g.value) h
put-deeper p q v h g e =
    ap (λ t. flagged h.read_only (value_of t))
    (put-further p q (tree v) (tree h.value) (tree g.value) (along-ok p h g e)
    ∙ ap (λ x. put_tree p x (tree h.value))
    (sym (tree-value_of (put_tree q (tree v) (tree g.value)))))

-- a list at one index
pub get-set : {A : Type 0} (xs : List A) (i : ℕ) (a b : A) → slice_get xs i ≡ Some a →
    slice_get (slice_set xs i b) i ≡ Some b
get-set [] i a b e = none-some a e
get-set (x ∷ xs) zero a b e = refl
get-set (x ∷ xs) (suc i) a b e = get-set xs i a b e

pub set-get : {A : Type 0} (xs : List A) (i : ℕ) (a : A) → slice_get xs i ≡ Some a →
    slice_set xs i a ≡ xs
set-get [] i a e = refl
set-get (x ∷ xs) zero a e = ap (λ y. y ∷ xs) (sym (some-inj e))
set-get (x ∷ xs) (suc i) a e = ap (λ l. x ∷ l) (set-get xs i a e)

pub set-again : {A : Type 0} (xs : List A) (i : ℕ) (a b : A) →
    slice_set (slice_set xs i a) i b ≡ slice_set xs i b
set-again [] i a b = refl
set-again (x ∷ xs) zero a b = refl
set-again (x ∷ xs) (suc i) a b = ap (λ l. x ∷ l) (set-again xs i a b)

pub get-front : {A : Type 0} (xs ys : List A) (i : ℕ) (a : A) → slice_get xs i ≡ Some a →
    slice_get (xs ++ ys) i ≡ Some a
get-front [] ys i a e = none-some a e
get-front (x ∷ xs) ys zero a e = e
get-front (x ∷ xs) ys (suc i) a e = get-front xs ys i a e

pub set-front : {A : Type 0} (xs ys : List A) (i : ℕ) (a b : A) → slice_get xs i ≡ Some a →
    slice_set (xs ++ ys) i b ≡ slice_set xs i b ++ ys
set-front [] ys i a b e = none-some a e
set-front (x ∷ xs) ys zero a b e = refl
set-front (x ∷ xs) ys (suc i) a b e = ap (λ l. x ∷ l) (set-front xs ys i a b e)

pub get-after : {A : Type 0} (xs ys : List A) (i k : ℕ) → i ≡ length xs + k →
    slice_get (xs ++ ys) i ≡ slice_get ys k
get-after [] ys i k e = let same : i ≡ k = omega arith in ap (slice_get ys) same
get-after (x ∷ xs) ys zero k e = absurd (omega arith)
get-after (x ∷ xs) ys (suc i) k e = get-after xs ys i k (omega arith)

pub set-after : {A : Type 0} (xs ys : List A) (i k : ℕ) (b : A) → i ≡ length xs + k →
    slice_set (xs ++ ys) i b ≡ xs ++ slice_set ys k b
set-after [] ys i k b e = let same : i ≡ k = omega arith in ap (λ j. slice_set ys j b) same
set-after (x ∷ xs) ys zero k b e = absurd (omega arith)
set-after (x ∷ xs) ys (suc i) k b e = ap (λ l. x ∷ l) (set-after xs ys i k b (omega arith))

pub take-after : {A : Type 0} (xs ys : List A) (i k : ℕ) → i ≡ length xs + k →
    take i (xs ++ ys) ≡ xs ++ take k ys
take-after [] ys i k e = let same : i ≡ k = omega arith in ap (λ j. take j ys) same
take-after (x ∷ xs) ys zero k e = absurd (omega arith)
take-after (x ∷ xs) ys (suc i) k e = ap (λ l. x ∷ l) (take-after xs ys i k (omega arith))

pub length-set : {A : Type 0} (xs : List A) (i : ℕ) (b : A) → length (slice_set xs i b) ≡ length xs
length-set [] i b = refl
length-set (x ∷ xs) zero b = refl
length-set (x ∷ xs) (suc i) b = ap suc (length-set xs i b)

-- at a place
root-there : (o : Option Held) (path : List PathStep) (g : Held) → along path o ≡ Some g →
    o ≡ Some (or_unit o)
root-there None path g e = none-some g e
root-there (Some d) path g e = refl

-- the root of a place, and what stands in it
module _ (roots : List Held) (p : Place) (g : Held) (e : find roots p ≡ Some g) where
  abbrev pub root : Held
  root = or_unit (slice_get roots p.root)

  pub there : slice_get roots p.root ≡ Some root
  there = root-there (slice_get roots p.root) p.path g e

  pub inside : along p.path (Some root) ≡ Some g
  inside = sym (ap (along p.path) there) ∙ e

  pub flag-here : root.read_only ≡ g.read_only
  flag-here = along-flag p.path root g inside

pub find-put : (roots : List Held) (p : Place) (g : Held) (v : Dynamic) → find roots p ≡ Some g →
    find (put roots p v) p ≡ Some (record g { value = v })
find-put roots p g v e =
    let d = root roots p g e in
    ap (along p.path) (get-set roots p.root d (put_held p.path v d) (there roots p g e))
    ∙ along-put p.path d g v (inside roots p g e)
    ∙ ap (λ b. Some (flagged b v)) (flag-here roots p g e)

pub put-find : (roots : List Held) (p : Place) (g : Held) → find roots p ≡ Some g →
    put roots p g.value ≡ roots
put-find roots p g e =
    ap (slice_set roots p.root) (put-along p.path (root roots p g e) g (inside roots p g e))
    ∙ set-get roots p.root (root roots p g e) (there roots p g e)

pub put-twice : (roots : List Held) (p : Place) (g : Held) (a b : Dynamic) → find roots p ≡ Some g →
    put (put roots p a) p b ≡ put roots p b
put-twice roots p g a b e =
    let d = root roots p g e in
    let x : Held = put_held p.path a d in
    ap (λ o. slice_set (put roots p a) p.root (put_held p.path b (or_unit o)))
    (get-set roots p.root d x (there roots p g e))
    ∙ ap (slice_set (put roots p a) p.root) (put-again p.path d g a b (inside roots p g e))
    ∙ set-again roots p.root x (put_held p.path b d)

pub length-put : (roots : List Held) (p : Place) (v : Dynamic) →
    length (put roots p v) ≡ length roots
length-put roots p v = length-set roots p.root (put_held p.path v (or_unit (slice_get roots p.root)))
