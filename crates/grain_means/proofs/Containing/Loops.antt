-- Loops and switches keep to the store.
use Rattle.std.proofs.Common.{◌≡◌, ◌≤◌, ◌+◌, ℕ, zero, suc, List, [], ◌∷◌, ◌++◌, Option, Some, None, Bool, map, nat_le, refl, sym, subst, arith}
use Rattle.std.specs.List.{AllByRecursion}
use Rattle.std.specs.Prelude.{ℤ, pos, ◌+ℤ◌}
use Rattle.std.specs.Str.{chars}
use Rattle.grain_value.specs.Items.{integers_from, items_of, range_length}
use Rattle.grain_value.specs.Looking.{cell_of}
use Rattle.grain_value.specs.Operands.{below, read_write, top}
use Rattle.grain_value.specs.Tree.{Tree, array, character, integer, pack}
use Rattle.grain_value.specs.View.{value_of}
use Rattle.grain_value.specs.laws.Same.{tree-value_of}
use Rattle.grain_value.specs.declared.values.Dynamic.{Dynamic}
use Rattle.grain_value.specs.declared.values.Dynamic.TheVariants as dynamic
use Rattle.grain_value.specs.declared.values.Held.{Held}
use Rattle.grain_fault.specs.Problems.{Plain}
use Rattle.grain_fault.specs.Problems as problem
use Rattle.grain_ops.specs.Calculations.{fits64}
use Rattle.grain_program.specs.Switches.{switch_target}
use Rattle.grain_program.specs.View.{switch_of}
use Rattle.grain_means.specs.Contained.{CursorNames, Names}
use Rattle.grain_means.specs.Rules as rules
use Rattle.grain_means.specs.Rules.{advanced, counter_text, in_entry, innermost_cursor, outer_cursors, stepped, with_cursor, without_cursor}
use Rattle.grain_means.specs.Worlds.{Act, Cursor, Frame, Setup, World}
use Rattle.grain_means.proofs.Footing.{by_test}
use Rattle.grain_means.proofs.Inside.{TreeNames, first_item, other_items}
use Rattle.grain_means.proofs.Naming.{pushed_names}
use Rattle.grain_means.proofs.Containing.Parts.{FrameNames, Operands, RestNames, may_stand}
use Rattle.grain_means.proofs.Containing.Frames.{Grounds, charged, jumps}
use Rattle.grain_means.proofs.Containing.Steps.{Stays, Here, going_on, last, less, looking, moves, raising, reading, writing}

module _ (clean : Bool) (n : ℕ) where
  abbrev ItemsName : List Tree → Type 0
  ItemsName ts = AllByRecursion (λ t. Names clean n (value_of t)) ts

  -- what a tree names, its value names
  value_names : (t : Tree) → TreeNames clean n t → Names clean n (value_of t)
  value_names t h = subst (TreeNames clean n) (sym (tree-value_of t)) h

  -- elements name what their array names
  elements_name : (ts : List Tree) → TreeNames clean n (array (pack ts)) → ItemsName ts
  elements_name [] h = tt
  elements_name (t ∷ ts) h = (
    value_names t (first_item clean n t (pack ts) h).0,
    elements_name ts (other_items clean n t (pack ts) h),
  )

  -- characters, bytes and integers name no cell
  characters_name : (cs : List ℕ) → ItemsName (map character cs)
  characters_name [] = tt
  characters_name (c ∷ cs) = ((omega arith, λ s. refl), characters_name cs)

  bytes_name : (bs : List ℕ) → ItemsName (map (λ b. integer (pos b)) bs)
  bytes_name [] = tt
  bytes_name (b ∷ bs) = ((omega arith, λ s. refl), bytes_name bs)

  integers_name : (from : ℤ) (k : ℕ) → ItemsName (integers_from from k)
  integers_name from zero = tt
  integers_name from (suc k) = ((omega arith, λ s. refl), integers_name (from +ℤ pos 1) k)

  -- items name what their value names
  items_name : (v : Dynamic) (ts : List Tree) → Names clean n v → items_of v ≡ Some ts →
      ItemsName ts
  items_name (dynamic.Text s) ts named is =
      let same : map character (chars s) ≡ ts = cc in
      subst ItemsName same (characters_name (chars s))
  items_name (dynamic.Array us) ts named is =
      let same : us ≡ ts = cc in subst ItemsName same (elements_name us named)
  items_name (dynamic.Blob s) ts named is =
      let same : map (λ b. integer (pos b)) s ≡ ts = cc in subst ItemsName same (bytes_name s)
  items_name (dynamic.Range from to inclusive) ts named is =
      let same : integers_from from (range_length from to inclusive) ≡ ts = cc in
      subst ItemsName same (integers_name from (range_length from to inclusive))
  items_name dynamic.Unit ts named is = absurd cc
  items_name (dynamic.Bool b) ts named is = absurd cc
  items_name (dynamic.Int i) ts named is = absurd cc
  items_name (dynamic.Char c) ts named is = absurd cc
  items_name (dynamic.Map es) ts named is = absurd cc
  items_name (dynamic.Pointer p) ts named is = absurd cc
  items_name (dynamic.Foreign kind number) ts named is = absurd cc
  items_name (dynamic.Cell number) ts named is = absurd cc

  -- the innermost cursor, and those around it
  innermost_names : (cs : List Cursor) → AllByRecursion (CursorNames clean n) cs →
      CursorNames clean n (innermost_cursor cs)
  innermost_names [] h = tt
  innermost_names (c ∷ cs) h = h.0

  outer_names : (cs : List Cursor) → AllByRecursion (CursorNames clean n) cs →
      AllByRecursion (CursorNames clean n) (outer_cursors cs)
  outer_names [] h = tt
  outer_names (c ∷ cs) h = h.1

module _ {S : Type 0} {m : Setup S} (on : Grounds m) where
  open on use {clean, least}

  module _ (n : ℕ) (low : least ≤ n) (f : Frame) (names : FrameNames clean n f) where
    -- a loop begins
    begun : (o : Option (List Tree)) →
        ((ts : List Tree) → o ≡ Some ts → AllByRecursion (λ t. Names clean n (value_of t)) ts) →
        (next : ℕ) (w : World S) → Here on n low f names w →
        Stays on n low f names (rules.loop_begun m o next f w)
    begun None given next w at =
        raising on n low f names (Plain problem.For (rules.position m f)) w at (omega arith, λ s. refl)
    begun (Some ts) given next w at =
        going_on on n low f names (with_cursor ts (stepped f next (below f.operands))) w at (
          less on n low f names,
          record {
            handlers = names.1.handlers;
            cursors = (given ts refl, names.1.cursors);
          },
        )

    pub begins_loop : (next : ℕ) (w : World S) → Here on n low f names w →
        Stays on n low f names (rules.iter_init m next f w)
    begins_loop next w at =
        reading on n low f names (top f.operands) [] w at (last on n low f names)
        (λ v. rules.loop_begun m (items_of v) next f w)
        (λ v read plain. begun (items_of v) (λ ts is. items_name clean n v ts read is) next w at)

    -- a loop is left
    outside : RestNames clean n f.handlers (outer_cursors f.cursors)
    outside = record {
      handlers = names.1.handlers;
      cursors = outer_names clean n f.cursors names.1.cursors;
    }

    pub leaves_loop : (next : ℕ) (ops : List Held) (w : World S) → Here on n low f names w →
        Operands clean n ops →
        Stays on n low f names (rules.onward m f (without_cursor (stepped f next ops)) w)
    leaves_loop next ops w at held =
        going_on on n low f names (without_cursor (stepped f next ops)) w at (held, outside)

    left : (target : ℕ) (w : World S) → Here on n low f names w →
        Stays on n low f names (rules.loop_left m target f w)
    left target w at =
        let go : World S → Act S =
        rules.onward m f (without_cursor (stepped f target f.operands)) in
        by_test (Stays on n low f names) (nat_le target f.address) (rules.charged m f w go) (go w)
        (λ back. charged on n low f names go
        (λ v there. leaves_loop target f.operands v there names.0) w at)
        (λ ahead. leaves_loop target f.operands w at names.0)

    -- the next item
    stores_count : (slot : Option ℕ) (i : ℤ) (w : World S) → Here on n low f names w →
        (go : World S → Act S) →
        ((v : World S) → Here on n low f names v → Stays on n low f names (go v)) →
        Stays on n low f names (rules.count_stored m slot i f w go)
    stores_count None i w at go going = going w at
    stores_count (Some slot) i w at go going =
        looking on n low f names slot w at
        (λ h. rules.written_at m (in_entry (f.base + slot) (cell_of h.value))
        (read_write (dynamic.Int i)) [] f w go)
        (λ h is named. writing on n low f names (in_entry (f.base + slot) (cell_of h.value))
        (read_write (dynamic.Int i)) [] w at (omega arith, λ s. refl)
        (may_stand (in_entry (f.base + slot) (cell_of h.value)) (dynamic.Int i) refl) go going)

    gives : (t : Tree) (ts : List Tree) → Names clean n (value_of t) →
        AllByRecursion (λ u. Names clean n (value_of u)) ts → (i : ℤ) (next : ℕ) (w : World S) →
        Here on n low f names w → Stays on n low f names (rules.item_given m t ts i next f w)
    gives t ts one rest i next w at =
        reading on n low f names (read_write (value_of t)) [] w at one
        (λ v. rules.onward m f
        (advanced ts i (stepped f next (f.operands ++ read_write v ∷ []))) w)
        (λ v read plain. going_on on n low f names
        (advanced ts i (stepped f next (f.operands ++ read_write v ∷ []))) w at (
          pushed_names clean n f.operands (read_write v) names.0 read,
          record { handlers = names.1.handlers; cursors = (rest, outside.cursors) },
        ))

    by_items : (ts : List Tree) → AllByRecursion (λ t. Names clean n (value_of t)) ts → (i : ℤ)
        (target : ℕ) (slot : Option ℕ) (next : ℕ) (w : World S) → Here on n low f names w →
        Stays on n low f names (rules.loop_advanced m ts i target slot next f w)
    by_items [] given i target slot next w at = left target w at
    by_items (t ∷ ts) given i target slot next w at =
        by_test (Stays on n low f names) (fits64 (i +ℤ pos 1))
        (rules.count_stored m slot (i +ℤ pos 1) f w
        (rules.item_given m t ts (i +ℤ pos 1) next f))
        (rules.raised m f (Plain (problem.Arithmetic (counter_text i)) (rules.position m f)) w)
        (λ fits. stores_count slot (i +ℤ pos 1) w at (rules.item_given m t ts (i +ℤ pos 1) next f)
        (λ v there. gives t ts given.0 given.1 (i +ℤ pos 1) next v there))
        (λ past. raising on n low f names
        (Plain (problem.Arithmetic (counter_text i)) (rules.position m f)) w at
        (omega arith, λ s. refl))

    pub advances : (target : ℕ) (slot : Option ℕ) (next : ℕ) (w : World S) →
        Here on n low f names w →
        Stays on n low f names (rules.iter_next m target slot next f w)
    advances target slot next w at =
        by_items (innermost_cursor f.cursors).left
        (innermost_names clean n f.cursors names.1.cursors) (innermost_cursor f.cursors).counter
        target slot next w at

    -- a transfer by a table of cases
    pub switches : (k next : ℕ) (w : World S) → Here on n low f names w →
        Stays on n low f names (rules.switch m k f w)
    switches k next w at =
        reading on n low f names (top f.operands) [] w at (last on n low f names)
        (λ v. rules.jumped m f
        (stepped f (switch_target (switch_of m.program k) v) f.operands) w)
        (λ v read plain. jumps on n low f
        (stepped f (switch_target (switch_of m.program k) v) f.operands) names
        (moves on n low f names (switch_target (switch_of m.program k) v) f.operands names.0) w
        at)
