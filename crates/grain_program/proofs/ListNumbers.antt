-- The table of handler lists: what a number stands for, and that a list has one number.
use Rattle.std.proofs.Common.{◌≡◌, ℕ, zero, suc, ◌+◌, ◌-◌, ◌<◌, ◌≤◌, ◌⊎◌, Bool, true, false, cond, List, [], ◌∷◌, ◌++◌, length, get_or, Some, None, refl, sym, ap, subst, ◌∙◌, inl, inr, arith, add-one, length-append}
use Rattle.std.specs.Prelude.{slice_get, ◌==◌}
use Rattle.std.specs.Ordering.{is_eq}
use Rattle.std.specs.BTreeMap.{BTreeMap, get, Updates}
use Rattle.std.proofs.Math.ListN.{get_or-append}
use Rattle.std.proofs.Math.Seq.{get_or-append_seam}
use Rattle.std.proofs.lemmas.Bool.{eqb-true, eqb-false}
use Rattle.std.proofs.lemmas.Option.{slice_get_cases, slice_get_within, slice_get-get_or}
use Rattle.grain_program.specs.declared.verifier.handlers.Node.{Node}
use Rattle.grain_program.specs.Shapes.{TryHandler, same_handlers}
use Rattle.grain_program.specs.HandlerLists.{list_at, Grows, handler_of, node_list, lists_from, node_cmp, IsTable}
use Rattle.grain_program.proofs.SameHandlers.{handlers_same, handlers_self}
use Rattle.grain_program.proofs.NodeKeys.{node, nodes_tied, node_tied}

-- ---- numbers keep their lists

list_at_before : (xs ys : List (List TryHandler)) (n : ℕ) → n ≤ length xs
    → list_at (xs ++ ys) n ≡ list_at xs n
list_at_before xs ys zero le = refl
list_at_before xs ys (suc k) le = get_or-append xs ys [] k (omega (arith, le))

list_at_last : (xs : List (List TryHandler)) (y : List TryHandler) (n : ℕ) → n ≡ suc (length xs)
    → list_at (xs ++ y ∷ []) n ≡ y
list_at_last xs y n e =
    ap (list_at (xs ++ y ∷ [])) e ∙ get_or-append_seam xs y [] []

longer : (xs : List (List TryHandler)) (y : List TryHandler) → length (xs ++ y ∷ []) ≡ length
    xs + 1
longer xs y = length-append xs (y ∷ [])

lists_long : (ns : List Node) (xs : List (List TryHandler))
    → length (lists_from xs ns) ≡ length xs + length ns
lists_long [] xs = omega arith
lists_long (n ∷ ns) xs =
    lists_long ns (xs ++ node_list xs n ∷ []) ∙ omega (arith, longer xs (node_list xs n))

lists_keep : (ns : List Node) (xs : List (List TryHandler)) (m : ℕ) → m ≤ length xs
    → list_at (lists_from xs ns) m ≡ list_at xs m
lists_keep [] xs m le = refl
lists_keep (n ∷ ns) xs m le =
    lists_keep ns (xs ++ node_list xs n ∷ []) m (omega (arith, le, longer xs (node_list xs n)))
    ∙ list_at_before xs (node_list xs n ∷ []) m le

-- one node more
lists_more : (ns : List Node) (n : Node) (xs : List (List TryHandler))
    → lists_from xs (ns ++ n ∷ []) ≡ lists_from xs ns ++ node_list (lists_from xs ns) n ∷ []
lists_more [] n xs = refl
lists_more (m ∷ ns) n xs = lists_more ns n (xs ++ node_list xs m ∷ [])

-- the list of a node
lists_node : (ns : List Node) (xs : List (List TryHandler)) (k i : ℕ) (n : Node)
    → slice_get ns k ≡ Some n → i ≡ length xs + k → n.outer ≤ i
    → list_at (lists_from xs ns) (suc i) ≡ handler_of n ∷ list_at (lists_from xs ns) n.outer
lists_node [] xs k i n e is le = absurd cc
lists_node (m ∷ ns) xs zero i n e is le =
    let same : m ≡ n = cc in
    let low : n.outer ≤ length xs = omega (arith, le, is) in
    lists_keep ns (xs ++ node_list xs m ∷ []) (suc i) (omega (arith, is, longer xs (node_list xs m)))
    ∙ list_at_last xs (node_list xs m) (suc i) (omega (arith, is))
    ∙ ap (node_list xs) same
    ∙ ap (λ (l : List TryHandler). handler_of n ∷ l) (sym (lists_keep (m ∷ ns) xs n.outer low))
lists_node (m ∷ ns) xs (suc k) i n e is le =
    lists_node ns (xs ++ node_list xs m ∷ []) k i n e
    (omega (arith, is, longer xs (node_list xs m))) le

-- the lists of a table
abbrev pub lists : List Node → List (List TryHandler)
lists nodes = lists_from [] nodes

-- there are as many as nodes
pub table_long : (nodes : List Node) → length (lists nodes) ≡ length nodes
table_long nodes = lists_long nodes [] ∙ omega arith

-- each number is kept where a node is added
grows_more : (nodes : List Node) (n : Node) → Grows (lists nodes) (lists (nodes ++ n ∷ []))
grows_more nodes n =
    subst (λ (ls : List (List TryHandler)). Grows (lists nodes) ls) (sym (lists_more nodes n []))
    (record {
      longer = omega (arith, longer (lists nodes) (node_list (lists nodes) n));
      keeps = λ m le. list_at_before (lists nodes) (node_list (lists nodes) n ∷ []) m le;
    })

-- the list of the node that is added
list_more : (nodes : List Node) (n : Node)
    → list_at (lists (nodes ++ n ∷ [])) (suc (length nodes))
    ≡ handler_of n ∷ list_at (lists nodes) n.outer
list_more nodes n =
    ap (λ (ls : List (List TryHandler)). list_at ls (suc (length nodes))) (lists_more nodes n [])
    ∙ list_at_last (lists nodes) (node_list (lists nodes) n) (suc (length nodes))
    (ap suc (sym (table_long nodes)))

-- ---- one table

module _ (nodes : List Node) (numbers : BTreeMap Node ℕ) (t : IsTable nodes numbers) where
  -- the list of the node at the place
  table_node : (k : ℕ) (n : Node) → slice_get nodes k ≡ Some n
      → list_at (lists nodes) (suc k) ≡ handler_of n ∷ list_at (lists nodes) n.outer
  table_node k n e = lists_node nodes [] k k n e (omega arith) (t.below k n e)

  -- the node at a place of the table
  record At (k : ℕ) : Type 0 where
    node : Node
    is : slice_get nodes k ≡ Some node
    list : list_at (lists nodes) (suc k) ≡ handler_of node ∷ list_at (lists nodes) node.outer
    low : node.outer ≤ k

  at : (k : ℕ) → k < length nodes → At k
  at k lt = of (slice_get_cases nodes k).1 where
    of : ((x : Node) × (k < length nodes) × (slice_get nodes k ≡ Some x) × (get_or nodes k x ≡ x))
        ⊎ ((length nodes ≤ k) × (slice_get nodes k ≡ None)) → At k
    of (inl h) = record {
      node = h.0;
      is = h.2;
      list = table_node k h.0 h.2;
      low = t.below k h.0 h.2;
    }
    of (inr h) = absurd (omega (arith, h.0, lt))

  -- nodes of one list are one, where the lists around them have one number
  one_node : (m n : Node) → m.outer ≡ n.outer → handler_of m ≡ handler_of n → m ≡ n
  one_node m n e f =
      ap (λ (x : ℕ). node x m.target m.variable m.height m.cursors) e
      ∙ ap (λ (h : TryHandler). node n.outer h.target h.variable h.height h.cursors) f

  first_same : (g h : TryHandler) (gs hs : List TryHandler)
      → ◌≡◌ {A = List TryHandler} (g ∷ gs) (h ∷ hs) → (g ≡ h) × (gs ≡ hs)
  first_same g h gs hs e = (cc, cc)

  -- a list has one number
  one_number : (hs : List TryHandler) (i j : ℕ) → i ≤ length nodes → j ≤ length nodes
      → list_at (lists nodes) i ≡ hs → list_at (lists nodes) j ≡ hs → i ≡ j
  one_number hs zero zero li lj e f = refl
  one_number hs zero (suc l) li lj e f =
      let n = at l (omega (arith, lj)) in
      let bad : [] ≡ handler_of n.node ∷ list_at (lists nodes) n.node.outer = e ∙ sym f ∙ n.list in
      absurd cc
  one_number hs (suc k) zero li lj e f =
      let n = at k (omega (arith, li)) in
      let bad : [] ≡ handler_of n.node ∷ list_at (lists nodes) n.node.outer = f ∙ sym e ∙ n.list in
      absurd cc
  one_number [] (suc k) (suc l) li lj e f =
      let n = at k (omega (arith, li)) in
      let bad : [] ≡ handler_of n.node ∷ list_at (lists nodes) n.node.outer = sym e ∙ n.list in
      absurd cc
  one_number (h ∷ hs) (suc k) (suc l) li lj e f =
      let m = at k (omega (arith, li)) in
      let n = at l (omega (arith, lj)) in
      let a = first_same (handler_of m.node) h (list_at (lists nodes) m.node.outer) hs
      (sym m.list ∙ e) in
      let b = first_same (handler_of n.node) h (list_at (lists nodes) n.node.outer) hs
      (sym n.list ∙ f) in
      let outers : m.node.outer ≡ n.node.outer =
      one_number hs m.node.outer n.node.outer (omega (arith, m.low, li))
      (omega (arith, n.low, lj)) a.1 b.1 in
      let same = one_node m.node n.node outers (a.0 ∙ sym b.0) in
      let both : Some (suc k) ≡ Some (suc l) =
      sym (t.numbered k m.node m.is) ∙ ap (get node_cmp numbers) same
      ∙ t.numbered l n.node n.is in
      cc

  -- lists are the same where their numbers are
  numbers_decide : (i j : ℕ) → i ≤ length nodes → j ≤ length nodes
      → same_handlers (list_at (lists nodes) i) (list_at (lists nodes) j) ≡ (i == j)
  numbers_decide i j li lj =
      by (i == j) (same_handlers (list_at (lists nodes) i) (list_at (lists nodes) j)) refl refl where
        by : (b d : Bool) → (i == j) ≡ b
            → same_handlers (list_at (lists nodes) i) (list_at (lists nodes) j) ≡ d → d ≡ b
        by true d e f =
            sym f
            ∙ ap (λ (k : ℕ). same_handlers (list_at (lists nodes) i) (list_at (lists nodes) k))
            (sym (eqb-true i j e))
            ∙ handlers_self (list_at (lists nodes) i)
        by false false e f = refl
        by false true e f =
            let same = handlers_same (list_at (lists nodes) i) (list_at (lists nodes) j) f in
            absurd (eqb-false i j e (one_number (list_at (lists nodes) j) i j li lj same refl))

  -- ---- what the code has, where these are the lists

  module _ (ls : List (List TryHandler)) (same : lists nodes ≡ ls) where
    -- a number that is not 0 is that of a node
    pub number_node : (i : ℕ) (n : Node) → (i ≡ 0 → ⊥) → i ≤ length ls
        → n ≡ get_or nodes (i - 1) n
        → (list_at ls i ≡ handler_of n ∷ list_at ls n.outer) × (n.outer ≤ length ls)
    number_node zero n not le e = absurd (not refl)
    number_node (suc k) n not le e =
        let long : length ls ≡ length nodes = ap length (sym same) ∙ table_long nodes in
        let back : suc k - 1 ≡ k = omega arith in
        let here : slice_get nodes k ≡ Some n =
        slice_get-get_or nodes k n (omega (arith, le, long))
        ∙ ap (λ (x : Node). Some x) (sym (e ∙ ap (λ (j : ℕ). get_or nodes j n) back)) in (
          subst (λ (xs : List (List TryHandler)). list_at xs (suc k) ≡ handler_of n
              ∷ list_at xs n.outer) same (table_node k n here),
          omega (arith, t.below k n here, le),
        )

    -- and so is a number that the map has
    pub number_found : (n : Node) (i : ℕ) → get node_cmp numbers n ≡ Some i
        → (i ≤ length ls) × (list_at ls i ≡ handler_of n ∷ list_at ls n.outer)
    number_found n i e =
        let f = t.found n i e in
        let long : length ls ≡ length nodes = ap length (sym same) ∙ table_long nodes in (
          omega (arith, f.1, long, slice_get_within nodes f.0 n f.2),
          ap (list_at ls) f.1
              ∙ subst (λ (xs : List (List TryHandler)). list_at xs (suc f.0) ≡ handler_of n
              ∷ list_at xs n.outer) same (table_node f.0 n f.2),
        )

    -- numbers are compared in the place of lists
    pub numbers_compare : (i j : ℕ) → i ≤ length ls → j ≤ length ls
        → same_handlers (list_at ls i) (list_at ls j) ≡ (i == j)
    numbers_compare i j li lj =
        let long : length ls ≡ length nodes = ap length (sym same) ∙ table_long nodes in
        subst (λ (xs : List (List TryHandler)). same_handlers (list_at xs i) (list_at xs j) ≡
        (i == j)) same (numbers_decide i j (omega (arith, li, long)) (omega (arith, lj, long)))

-- ---- one node more

module _ (nodes : List Node) (n : Node) where
  -- what stands at a place of the longer table
  node_at : (k : ℕ) (m : Node) → slice_get (nodes ++ n ∷ []) k ≡ Some m
      → (slice_get nodes k ≡ Some m) ⊎ ((k ≡ length nodes) × (n ≡ m))
  node_at k m e = of nodes k e where
    of : (ns : List Node) (k : ℕ) → slice_get (ns ++ n ∷ []) k ≡ Some m
        → (slice_get ns k ≡ Some m) ⊎ ((k ≡ length ns) × (n ≡ m))
    of [] zero e = inr (refl, cc)
    of [] (suc k) e = absurd cc
    of (x ∷ ns) zero e = inl e
    of (x ∷ ns) (suc k) e = elim (of ns k e) [
      | inl h ↦ inl h
      | inr h ↦ inr (ap suc h.0, h.1)
    ]

  old_at : (ns : List Node) (k : ℕ) (m : Node) → slice_get ns k ≡ Some m
      → slice_get (ns ++ n ∷ []) k ≡ Some m
  old_at [] k m e = absurd cc
  old_at (x ∷ ns) zero m e = e
  old_at (x ∷ ns) (suc k) m e = old_at ns k m e

  new_at : (ns : List Node) → slice_get (ns ++ n ∷ []) (length ns) ≡ Some n
  new_at [] = refl
  new_at (x ∷ ns) = new_at ns

  -- a table stays one where a node is added that it did not have
  table_more : (numbers after : BTreeMap Node ℕ) → IsTable nodes numbers
      → n.outer ≤ length nodes → get node_cmp numbers n ≡ None
      → Updates node_cmp numbers after n (Some (suc (length nodes)))
      → IsTable (nodes ++ n ∷ []) after
  table_more numbers after t low none u = record {
    below = λ k m e. below k m (node_at k m e);
    numbered = λ k m e. numbered k m (node_at k m e);
    found = λ m x e. found m x (is_eq (node_cmp n m)) refl (sym (u.0 m) ∙ e);
  } where
    below : (k : ℕ) (m : Node) → (slice_get nodes k ≡ Some m) ⊎ ((k ≡ length nodes) × (n ≡ m))
        → m.outer ≤ k
    below k m (inl h) = t.below k m h
    below k m (inr h) = subst (λ (x : Node). x.outer ≤ k) h.1 (omega (arith, low, h.0))

    other : (k : ℕ) (m : Node) → slice_get nodes k ≡ Some m → (b : Bool)
        → is_eq (node_cmp n m) ≡ b
        → cond b (Some (suc (length nodes))) (get node_cmp numbers m) ≡ Some (suc k)
    other k m h false e = t.numbered k m h
    other k m h true e =
        let bad : None ≡ Some (suc k) =
        sym none ∙ ap (get node_cmp numbers) (nodes_tied n m e) ∙ t.numbered k m h in
        absurd cc

    numbered : (k : ℕ) (m : Node) → (slice_get nodes k ≡ Some m) ⊎ ((k ≡ length nodes) × (n ≡ m))
        → get node_cmp after m ≡ Some (suc k)
    numbered k m (inl h) = u.0 m ∙ other k m h (is_eq (node_cmp n m)) refl
    numbered k m (inr h) =
        u.0 m
        ∙ ap (λ (b : Bool). cond b (Some (suc (length nodes))) (get node_cmp numbers m))
        (ap (λ (x : Node). is_eq (node_cmp n x)) (sym h.1) ∙ node_tied n)
        ∙ ap (λ (x : ℕ). Some (suc x)) (sym h.0)

    found : (m : Node) (x : ℕ) (b : Bool) → is_eq (node_cmp n m) ≡ b
        → cond b (Some (suc (length nodes))) (get node_cmp numbers m) ≡ Some x
        → (k : ℕ) × (x ≡ suc k) × (slice_get (nodes ++ n ∷ []) k ≡ Some m)
    found m x true e h =
        let is : suc (length nodes) ≡ x = cc in (
          length nodes,
          sym is,
          subst (λ (y : Node). slice_get (nodes ++ n ∷ []) (length nodes) ≡ Some y)
              (nodes_tied n m e) (new_at nodes),
        )
    found m x false e h = let f = t.found m x h in (f.0, f.1, old_at nodes f.0 m f.2)

-- ---- one node more, as the code adds it

module _ (nodes after : List Node) (n : Node) (ls : List (List TryHandler))
    (same : lists nodes ≡ ls) (more : after ≡ nodes ++ n ∷ []) where
  pub grows_on : Grows ls (lists after)
  grows_on =
      subst (λ (xs : List Node). Grows ls (lists xs)) (sym more)
      (subst (λ (xs : List (List TryHandler)). Grows xs (lists (nodes ++ n ∷ []))) same
      (grows_more nodes n))

  pub number_within : (i : ℕ) → i ≡ length nodes + 1 → i ≤ length (lists after)
  number_within i e =
      omega (arith, e, table_long after, ap length more, length-append nodes (n ∷ []))

  pub number_list : (i : ℕ) → i ≡ length nodes + 1
      → list_at (lists after) i ≡ handler_of n ∷ list_at ls n.outer
  number_list i e =
      ap (list_at (lists after)) (e ∙ add-one (length nodes))
      ∙ ap (λ (xs : List Node). list_at (lists xs) (suc (length nodes))) more
      ∙ list_more nodes n
      ∙ ap (λ (xs : List (List TryHandler)). handler_of n ∷ list_at xs n.outer) same

  pub table_on : (numbers now : BTreeMap Node ℕ) (i : ℕ) → IsTable nodes numbers
      → n.outer ≤ length ls → get node_cmp numbers n ≡ None → i ≡ length nodes + 1
      → Updates node_cmp numbers now n (Some i) → IsTable after now
  table_on numbers now i t low none e u =
      let long : length ls ≡ length nodes = ap length (sym same) ∙ table_long nodes in
      let is : i ≡ suc (length nodes) = omega (arith, e) in
      subst (λ (xs : List Node). IsTable xs now) (sym more)
      (table_more nodes n numbers now t (omega (arith, low, long)) none
      (subst (λ (x : ℕ). Updates node_cmp numbers now n (Some x)) is u))
