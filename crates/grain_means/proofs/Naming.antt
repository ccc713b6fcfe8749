-- What names cells of a store only goes on to: in parts of lists, in longer stores, as it is read,
-- and as it is written.
use Rattle.std.proofs.Common.{◌≡◌, ◌≤◌, ◌+◌, ◌-◌, ℕ, zero, suc, List, [], ◌∷◌, ◌++◌, Bool, true, false, if◌then◌else◌, not, Option, Some, None, length, map, take, drop, refl, subst, arith}
use Rattle.std.proofs.Math.Nat.{le-max_left, le-max_right, max-le}
use Rattle.std.specs.List.{AllByRecursion, list_all}
use Rattle.std.specs.Prelude.{slice_get, slice_set}
use Rattle.grain_value.specs.Cells.{cell_bound, content, flat, is_cell, is_clean, items_bound}
use Rattle.grain_value.specs.Looking.{cell_of}
use Rattle.grain_value.specs.Operands.{arguments, bound_entries, read_write, rotated, top, under}
use Rattle.grain_value.specs.Scopes.{set_held}
use Rattle.grain_value.specs.Tree.{Tree, pack, pointer}
use Rattle.grain_value.specs.View.{tree, value_of}
use Rattle.grain_value.specs.laws.Same.{tree-value_of}
use Rattle.grain_value.specs.declared.scopes.Entry.{Entry}
use Rattle.grain_value.specs.declared.stores.Cell.{Cell}
use Rattle.grain_value.specs.declared.values.Dynamic.{Dynamic}
use Rattle.grain_value.specs.declared.values.Dynamic.TheVariants as dynamic
use Rattle.grain_value.specs.declared.values.FnPtr.{FnPtr}
use Rattle.grain_value.specs.declared.values.Held.{Held}
use Rattle.grain_host.specs.Clean.{both_true, first_true, second_true}
use Rattle.grain_host.specs.Law.{is_plain}
use Rattle.grain_means.specs.Contained.{EntryNames, HeldNames, Names}
use Rattle.grain_means.specs.Rules.{curried_in, flat_all, flat_before, held_at, trees_in}

-- parts of lists
module _ {X : Type 0} (P : X → Type 0) where
  pub all_take : (n : ℕ) (xs : List X) → AllByRecursion P xs → AllByRecursion P (take n xs)
  all_take zero xs h = tt
  all_take (suc n) [] h = tt
  all_take (suc n) (x ∷ xs) h = (h.0, all_take n xs h.1)

  pub all_drop : (n : ℕ) (xs : List X) → AllByRecursion P xs → AllByRecursion P (drop n xs)
  all_drop zero xs h = h
  all_drop (suc n) [] h = tt
  all_drop (suc n) (x ∷ xs) h = all_drop n xs h.1

  pub all_joined : (xs ys : List X) → AllByRecursion P xs → AllByRecursion P ys →
      AllByRecursion P (xs ++ ys)
  all_joined [] ys h k = k
  all_joined (x ∷ xs) ys h k = (h.0, all_joined xs ys h.1 k)

  pub all_got : (xs : List X) (i : ℕ) (x : X) → AllByRecursion P xs → slice_get xs i ≡ Some x → P x
  all_got [] i x h is = absurd cc
  all_got (y ∷ ys) zero x h is =
      let same : y ≡ x = cc in subst P same h.0
  all_got (y ∷ ys) (suc i) x h is = all_got ys i x h.1 is

  pub all_set : (xs : List X) (i : ℕ) (x : X) → AllByRecursion P xs → P x →
      AllByRecursion P (slice_set xs i x)
  all_set [] i x h p = tt
  all_set (y ∷ ys) zero x h p = (p, h.1)
  all_set (y ∷ ys) (suc i) x h p = (h.0, all_set ys i x h.1 p)

pub all_wider : {X : Type 0} (P Q : X → Type 0) → ((x : X) → P x → Q x) → (xs : List X) →
    AllByRecursion P xs → AllByRecursion Q xs
all_wider P Q f [] h = tt
all_wider P Q f (x ∷ xs) h = (f x h.0, all_wider P Q f xs h.1)

-- a value that is no cell
pub not_cell : (v : Dynamic) → cell_of v ≡ None → not (is_cell (tree v)) ≡ true
not_cell dynamic.Unit e = refl
not_cell (dynamic.Bool b) e = refl
not_cell (dynamic.Int n) e = refl
not_cell (dynamic.Char c) e = refl
not_cell (dynamic.Text t) e = refl
not_cell (dynamic.Array ts) e = refl
not_cell (dynamic.Blob s) e = refl
not_cell (dynamic.Map es) e = refl
not_cell (dynamic.Pointer p) e = refl
not_cell (dynamic.Range from to inclusive) e = refl
not_cell (dynamic.Foreign kind number) e = refl
not_cell (dynamic.Cell number) e = absurd cc

-- A cell holds no cell, and what it holds names cells below this number only. It may be lent: then what
-- stands in for its content does so.
pub record CellHolds (clean : Bool) (n : ℕ) (c : Cell) : Type 0 where
  pub flat : cell_of c.held.value ≡ None
  pub names : HeldNames clean n c.held

-- over a longer store
module _ (clean : Bool) (n k : ℕ) (le : n ≤ k) where
  pub held_wider : (h : Held) → HeldNames clean n h → HeldNames clean k h
  held_wider h p = (omega (arith, p.0, le), p.1)

  pub entry_wider : (e : Entry) → EntryNames clean n e → EntryNames clean k e
  entry_wider e p = (omega (arith, p.0, le), p.1)

  pub cell_wider : (c : Cell) → CellHolds clean n c → CellHolds clean k c
  cell_wider c p = record { flat = p.flat; names = held_wider c.held p.names }

-- operands
module _ (clean : Bool) (n : ℕ) where
  pub top_names : (hs : List Held) → AllByRecursion (HeldNames clean n) hs → HeldNames clean n (top hs)
  top_names [] h = (omega arith, λ s. refl)
  top_names (x ∷ []) h = h.0
  top_names (x ∷ y ∷ hs) h = top_names (y ∷ hs) h.1

  pub under_names : (k : ℕ) (hs : List Held) → AllByRecursion (HeldNames clean n) hs →
      AllByRecursion (HeldNames clean n) (under k hs)
  under_names k hs h = all_take (HeldNames clean n) (length hs - k) hs h

  pub arguments_name : (k : ℕ) (hs : List Held) → AllByRecursion (HeldNames clean n) hs →
      AllByRecursion (HeldNames clean n) (arguments k hs)
  arguments_name k hs h = all_drop (HeldNames clean n) (length hs - k) hs h

  pub rotated_names : (k : ℕ) (hs : List Held) → AllByRecursion (HeldNames clean n) hs →
      AllByRecursion (HeldNames clean n) (rotated k hs)
  rotated_names k hs h =
      let at : ℕ = length hs - (k + 1) in
      let others : List Held = drop at hs in
      let left = all_drop (HeldNames clean n) at hs h in
      all_joined (HeldNames clean n) (take at hs ++ drop k others) (take k others)
      (all_joined (HeldNames clean n) (take at hs) (drop k others) (all_take (HeldNames clean n) at hs h)
      (all_drop (HeldNames clean n) k others left))
      (all_take (HeldNames clean n) k others left)

  pub pushed_names : (hs : List Held) (h : Held) → AllByRecursion (HeldNames clean n) hs →
      HeldNames clean n h → AllByRecursion (HeldNames clean n) (hs ++ h ∷ [])
  pushed_names hs h all one = all_joined (HeldNames clean n) hs (h ∷ []) all (one, tt)

  -- what an entry holds
  pub held_at_names : (scope : List Entry) (i : ℕ) (h : Held) →
      AllByRecursion (EntryNames clean n) scope → held_at scope i ≡ Some h → HeldNames clean n h
  held_at_names [] i h all is = absurd cc
  held_at_names (e ∷ es) zero h all is =
      let same : e.held ≡ h = cc in subst (HeldNames clean n) same all.0
  held_at_names (e ∷ es) (suc i) h all is = held_at_names es i h all.1 is

  pub set_names : (scope : List Entry) (i : ℕ) (h : Held) → AllByRecursion (EntryNames clean n) scope →
      HeldNames clean n h → AllByRecursion (EntryNames clean n) (set_held scope i h)
  set_names [] i h all one = tt
  set_names (e ∷ es) zero h all one = (one, all.1)
  set_names (e ∷ es) (suc i) h all one = (all.0, set_names es i h all.1 one)

  pub bound_names : (names : List (List ℕ)) (ns : List ℕ) (hs : List Held) →
      AllByRecursion (HeldNames clean n) hs →
      AllByRecursion (EntryNames clean n) (bound_entries names ns hs)
  bound_names names [] hs all = tt
  bound_names names (i ∷ ns) [] all = tt
  bound_names names (i ∷ ns) (h ∷ hs) all = (all.0, bound_names names ns hs all.1)

  -- a value as it is read: it is no cell
  content_names : (cells : List Cell) (i : ℕ) (c : Option Cell) (v : Dynamic) →
      AllByRecursion (CellHolds clean n) cells → slice_get cells i ≡ c → content c ≡ Some v →
      Names clean n v × (cell_of v ≡ None)
  content_names cells i None v all at is = absurd cc
  content_names cells i (Some c) v all at is =
      by_mark c.busy (all_got (CellHolds clean n) cells i c all at) is where
        by_mark : (b : Bool) → CellHolds clean n c →
            (if b then None else Some c.held.value) ≡ Some v → Names clean n v × (cell_of v ≡ None)
        by_mark true here same = absurd cc
        by_mark false here same =
            let one : c.held.value ≡ v = one_value c.held.value v same in
            subst (λ (u : Dynamic). Names clean n u × (cell_of u ≡ None)) one
            (here.names, here.flat) where
              one_value : (a b : Dynamic) → Some a ≡ Some b → a ≡ b
              one_value a b e = cc

  pub flat_names : (cells : List Cell) (u v : Dynamic) → AllByRecursion (CellHolds clean n) cells →
      Names clean n u → flat cells u ≡ Some v → Names clean n v × (cell_of v ≡ None)
  flat_names cells u v all names is = at (cell_of u) refl where
    at : (c : Option ℕ) → cell_of u ≡ c → Names clean n v × (cell_of v ≡ None)
    at None plain =
        let same : u ≡ v = by_some u v (rw plain at is) in
        subst (λ (x : Dynamic). Names clean n x × (cell_of x ≡ None)) same (names, plain) where
          by_some : (a b : Dynamic) → Some a ≡ Some b → a ≡ b
          by_some a b e = cc
    at (Some i) cell =
        content_names cells i (slice_get cells i) v all refl (rw cell at is)

  -- what is no cell, and names cells below this number only
  abbrev pub PlainNames : Held → Type 0
  PlainNames h = HeldNames clean n h × (cell_of h.value ≡ None)

  -- what is given to a native: it names cells below this number only, and is none where values are clean
  abbrev pub Stands : Held → Type 0
  Stands h = HeldNames clean n h × (clean ≡ true → cell_of h.value ≡ None)

  pub plain_stands : (h : Held) → PlainNames h → Stands h
  plain_stands h p = (p.0, λ s. p.1)

  pub flat_all_names : (cells : List Cell) (hs args : List Held) →
      AllByRecursion (CellHolds clean n) cells → AllByRecursion (HeldNames clean n) hs →
      flat_all cells hs ≡ Some args → AllByRecursion Stands args
  flat_all_names cells [] args all names is =
      let same : [] ≡ args = cc in subst (AllByRecursion Stands) same tt
  flat_all_names cells (h ∷ hs) args all names is =
      by_first (flat cells h.value) (flat_all cells hs) refl refl
      (λ gs rest. flat_all_names cells hs gs all names.1 rest) is where
        by_first : (o : Option Dynamic) (r : Option (List Held)) → flat cells h.value ≡ o →
            flat_all cells hs ≡ r →
            ((gs : List Held) → flat_all cells hs ≡ Some gs → AllByRecursion Stands gs) →
            flat_before o h r ≡ Some args → AllByRecursion Stands args
        by_first None r first rest later is = absurd cc
        by_first (Some v) None first rest later is = absurd cc
        by_first (Some v) (Some gs) first rest later is =
            let same : record h { value = v } ∷ gs ≡ args = cc in
            subst (AllByRecursion Stands) same (
              plain_stands (record h { value = v }) (flat_names cells h.value v all names.0 first),
              later gs rest,
            )

  -- such values are operands
  pub plain_operands : (hs : List Held) → AllByRecursion Stands hs →
      AllByRecursion (HeldNames clean n) hs
  plain_operands hs h = all_wider Stands (HeldNames clean n) (λ x p. p.0) hs h

  pub plain_tree : (h : Held) → Stands h → clean ≡ true → is_plain (tree h.value) ≡ true
  plain_tree h p s =
      both_true (is_clean (tree h.value)) (not (is_cell (tree h.value))) (p.0.1 s)
      (not_cell h.value (p.1 s))

  pub plain_trees : (hs : List Held) → AllByRecursion Stands hs → clean ≡ true →
      list_all is_plain (trees_in hs) ≡ true
  plain_trees [] h s = refl
  plain_trees (x ∷ hs) h s =
      both_true (is_plain (tree x.value)) (list_all is_plain (trees_in hs)) (plain_tree x h.0 s)
      (plain_trees hs h.1 s)

  -- values of pointers
  abbrev pub CurryNames : List Tree → Type 0
  CurryNames ts =
      (items_bound (pack ts) ≤ n) × (clean ≡ true → is_clean (pointer [] (pack ts)) ≡ true)

  pub trees_name : (hs : List Held) → AllByRecursion (HeldNames clean n) hs →
      CurryNames (trees_in hs)
  trees_name [] h = (omega arith, λ s. refl)
  trees_name (x ∷ hs) h =
      let rest = trees_name hs h.1 in (
        max-le {a = cell_bound (tree x.value)} {b = items_bound (pack (trees_in hs))} h.0.0 rest.0,
        λ s. both_true (is_clean (tree x.value)) (is_clean (pointer [] (pack (trees_in hs))))
            (h.0.1 s) (rest.1 s),
      )

  pub more_names : (ts us : List Tree) → CurryNames ts → CurryNames us → CurryNames (ts ++ us)
  more_names [] us h k = k
  more_names (t ∷ ts) us h k =
      let rest = more_names ts us (
        omega (arith, h.0, le-max_right (cell_bound t) (items_bound (pack ts))),
        λ s. second_true (is_clean t) (is_clean (pointer [] (pack ts))) (h.1 s),
      ) k in (
        max-le {a = cell_bound t} {b = items_bound (pack (ts ++ us))}
            (omega (arith, h.0, le-max_left (cell_bound t) (items_bound (pack ts)))) rest.0,
        λ s. both_true (is_clean t) (is_clean (pointer [] (pack (ts ++ us))))
            (first_true (is_clean t) (is_clean (pointer [] (pack ts))) (h.1 s)) (rest.1 s),
      )

  pub curry_names : (ts : List Tree) → CurryNames ts →
      AllByRecursion (HeldNames clean n) (map (λ t. read_write (value_of t)) ts)
  curry_names [] h = tt
  curry_names (t ∷ ts) h = (
    rw (tree-value_of t) (
      omega (arith, h.0, le-max_left (cell_bound t) (items_bound (pack ts))),
      λ s. first_true (is_clean t) (is_clean (pointer [] (pack ts))) (h.1 s),
    ),
    curry_names ts (
      omega (arith, h.0, le-max_right (cell_bound t) (items_bound (pack ts))),
      λ s. second_true (is_clean t) (is_clean (pointer [] (pack ts))) (h.1 s),
    ),
  )

  -- the same as values
  pub curry_values : (ts : List Tree) → CurryNames ts →
      AllByRecursion (Names clean n) (map (λ t. value_of t) ts)
  curry_values [] h = tt
  curry_values (t ∷ ts) h = (
    rw (tree-value_of t) (
      omega (arith, h.0, le-max_left (cell_bound t) (items_bound (pack ts))),
      λ s. first_true (is_clean t) (is_clean (pointer [] (pack ts))) (h.1 s),
    ),
    curry_values ts (
      omega (arith, h.0, le-max_right (cell_bound t) (items_bound (pack ts))),
      λ s. second_true (is_clean t) (is_clean (pointer [] (pack ts))) (h.1 s),
    ),
  )

  -- the trees of values, as values of pointers
  pub values_curry : (vs : List Dynamic) → AllByRecursion (Names clean n) vs →
      CurryNames (map (λ v. tree v) vs)
  values_curry [] h = (omega arith, λ s. refl)
  values_curry (v ∷ vs) h =
      let rest = values_curry vs h.1 in (
        max-le {a = cell_bound (tree v)} {b = items_bound (pack (map (λ v. tree v) vs))} h.0.0 rest.0,
        λ s. both_true (is_clean (tree v)) (is_clean (pointer [] (pack (map (λ v. tree v) vs))))
            (h.0.1 s) (rest.1 s),
      )

  pub curried_names : (p : FnPtr) → Names clean n (dynamic.Pointer p) →
      AllByRecursion (HeldNames clean n) (curried_in p)
  curried_names p h = curry_names p.curry h
