-- Lists of handlers by number, as the verifier has them: number 0 is the empty list, and each node
-- of the table adds one, a handler in front of a list that has a lower number.
use Rattle.std.specs.Prelude.{ℕ, zero, suc, ◌≡◌, ◌≤◌, List, [], ◌∷◌, ◌++◌, length, slice_get, slice_index_or, Some}
use Rattle.std.specs.Ordering.{nat_cmp, ordering_then}
use Rattle.std.specs.Option.{option_cmp}
use Rattle.std.specs.declared.cmp.Ordering.{Ordering}
use Rattle.std.specs.BTreeMap.{BTreeMap, get}
use Rattle.grain_program.specs.declared.verifier.handlers.Node.{Node}
use Rattle.grain_program.specs.Shapes.{TryHandler}

-- the list of the number
abbrev pub list_at : List (List TryHandler) → ℕ → List TryHandler
list_at lists zero = []
list_at lists (suc k) = slice_index_or lists k []

-- each list has kept its number
pub record Grows (before now : List (List TryHandler)) : Type 0 where
  pub longer : length before ≤ length now
  pub keeps : (n : ℕ) → n ≤ length before → list_at now n ≡ list_at before n

-- the node's handler
abbrev pub handler_of : Node → TryHandler
handler_of n = record {
  target = n.target;
  variable = n.variable;
  height = n.height;
  cursors = n.cursors;
}

-- the node's handler in front of those around it
abbrev pub node_list : List (List TryHandler) → Node → List TryHandler
node_list lists n = handler_of n ∷ list_at lists n.outer

-- these lists and those of the nodes, each after the ones before
abbrev pub lists_from : List (List TryHandler) → List Node → List (List TryHandler)
lists_from lists [] = lists
lists_from lists (n ∷ ns) = lists_from (lists ++ node_list lists n ∷ []) ns

-- the order of nodes, as keys of a map
abbrev pub node_cmp : Node → Node → Ordering
node_cmp m n =
    ordering_then (nat_cmp m.outer n.outer) (ordering_then (nat_cmp m.target n.target)
    (ordering_then (option_cmp nat_cmp m.variable n.variable)
    (ordering_then (nat_cmp m.height n.height) (nat_cmp m.cursors n.cursors))))

-- the list around each node's handler has a lower number than the node's own, and the map has the
-- number of each node's list, and no other
pub record IsTable (nodes : List Node) (numbers : BTreeMap Node ℕ) : Type 0 where
  pub below : (k : ℕ) (n : Node) → slice_get nodes k ≡ Some n → n.outer ≤ k
  pub numbered : (k : ℕ) (n : Node) → slice_get nodes k ≡ Some n
      → get node_cmp numbers n ≡ Some (suc k)
  pub found : (n : Node) (m : ℕ) → get node_cmp numbers n ≡ Some m
      → (k : ℕ) × (m ≡ suc k) × (slice_get nodes k ≡ Some n)
