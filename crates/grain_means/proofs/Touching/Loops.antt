-- Roots through loops and switches.
use Rattle.std.proofs.Common.{◌≡◌, ◌+◌, ℕ, List, [], ◌∷◌, ◌++◌, Option, Some, None, nat_le}
use Rattle.std.specs.Prelude.{ℤ, pos, ◌+ℤ◌}
use Rattle.grain_value.specs.Items.{items_of}
use Rattle.grain_value.specs.Looking.{cell_of}
use Rattle.grain_value.specs.Operands.{below, read_write, top}
use Rattle.grain_value.specs.Tree.{Tree}
use Rattle.grain_value.specs.View.{value_of}
use Rattle.grain_value.specs.declared.values.Dynamic.TheVariants as dynamic
use Rattle.grain_value.specs.declared.values.Held.{Held}
use Rattle.grain_fault.specs.Problems.{Plain}
use Rattle.grain_fault.specs.Problems as problem
use Rattle.grain_ops.specs.Calculations.{fits64}
use Rattle.grain_program.specs.Switches.{switch_target}
use Rattle.grain_program.specs.View.{switch_of}
use Rattle.grain_means.specs.Rules as rules
use Rattle.grain_means.specs.Rules.{advanced, counter_text, in_entry, innermost_cursor, stepped, with_cursor, without_cursor}
use Rattle.grain_means.specs.Worlds.{Act, Frame, Place, Setup, World}
use Rattle.grain_means.proofs.Footing.{by_test}
use Rattle.grain_means.proofs.Touching.Frames.{At, Stays, charged, looks, onward, raises, reads, writes}
use Rattle.grain_means.proofs.Touching.Instructions.{jumping, may_entry}

module _ {S : Type 0} (m : Setup S) (t : Option Place) (old : List Held) (f : Frame)
    (is : f.this ≡ t) where
  abbrev Here : World S → Type 0
  Here w = At m t old w

  abbrev Keeps : Act S → Type 0
  Keeps act = Stays m t old act

  -- a loop begins
  begun : (o : Option (List Tree)) (next : ℕ) (w : World S) → Here w →
      Keeps (rules.loop_begun m o next f w)
  begun None next w at = raises m t old f is (Plain problem.For (rules.position m f)) w at
  begun (Some ts) next w at =
      onward m t old f is (with_cursor ts (stepped f next (below f.operands))) is w at

  pub begins_loop : (next : ℕ) (w : World S) → Here w → Keeps (rules.iter_init m next f w)
  begins_loop next w at =
      reads m t old f is (top f.operands) [] w at (λ v. rules.loop_begun m (items_of v) next f w)
      (λ v. begun (items_of v) next w at)

  -- a loop is left
  pub leaves_loop : (next : ℕ) (ops : List Held) (w : World S) → Here w →
      Keeps (rules.onward m f (without_cursor (stepped f next ops)) w)
  leaves_loop next ops w at = onward m t old f is (without_cursor (stepped f next ops)) is w at

  left : (target : ℕ) (w : World S) → Here w → Keeps (rules.loop_left m target f w)
  left target w at =
      let go : World S → Act S =
      rules.onward m f (without_cursor (stepped f target f.operands)) in
      by_test Keeps (nat_le target f.address) (rules.charged m f w go) (go w)
      (λ back. charged m t old f is go (λ v there. leaves_loop target f.operands v there) w at)
      (λ ahead. leaves_loop target f.operands w at)

  -- the next item
  stores_count : (slot : Option ℕ) (n : ℤ) (w : World S) → Here w → (go : World S → Act S) →
      ((v : World S) → Here v → Keeps (go v)) → Keeps (rules.count_stored m slot n f w go)
  stores_count None n w at go going = going w at
  stores_count (Some slot) n w at go going =
      looks m t old f is slot w at
      (λ h. rules.written_at m (in_entry (f.base + slot) (cell_of h.value))
      (read_write (dynamic.Int n)) [] f w go)
      (λ h. writes m t old f is (in_entry (f.base + slot) (cell_of h.value))
      (may_entry m t old f is (f.base + slot) (cell_of h.value)) (read_write (dynamic.Int n)) [] w at
      go going)

  gives : (one : Tree) (ts : List Tree) (n : ℤ) (next : ℕ) (w : World S) → Here w →
      Keeps (rules.item_given m one ts n next f w)
  gives one ts n next w at =
      reads m t old f is (read_write (value_of one)) [] w at
      (λ v. rules.onward m f
      (advanced ts n (stepped f next (f.operands ++ read_write v ∷ []))) w)
      (λ v. onward m t old f is
      (advanced ts n (stepped f next (f.operands ++ read_write v ∷ []))) is w at)

  by_items : (ts : List Tree) (n : ℤ) (target : ℕ) (slot : Option ℕ) (next : ℕ) (w : World S) →
      Here w → Keeps (rules.loop_advanced m ts n target slot next f w)
  by_items [] n target slot next w at = left target w at
  by_items (one ∷ ts) n target slot next w at =
      by_test Keeps (fits64 (n +ℤ pos 1))
      (rules.count_stored m slot (n +ℤ pos 1) f w
      (rules.item_given m one ts (n +ℤ pos 1) next f))
      (rules.raised m f (Plain (problem.Arithmetic (counter_text n)) (rules.position m f)) w)
      (λ fits. stores_count slot (n +ℤ pos 1) w at (rules.item_given m one ts (n +ℤ pos 1) next f)
      (λ v there. gives one ts (n +ℤ pos 1) next v there))
      (λ past. raises m t old f is
      (Plain (problem.Arithmetic (counter_text n)) (rules.position m f)) w at)

  pub advances : (target : ℕ) (slot : Option ℕ) (next : ℕ) (w : World S) → Here w →
      Keeps (rules.iter_next m target slot next f w)
  advances target slot next w at =
      by_items (innermost_cursor f.cursors).left (innermost_cursor f.cursors).counter target slot
      next w at

  -- a transfer by a table of cases
  pub switches : (k next : ℕ) (w : World S) → Here w → Keeps (rules.switch m k f w)
  switches k next w at =
      reads m t old f is (top f.operands) [] w at
      (λ v. rules.jumped m f
      (stepped f (switch_target (switch_of m.program k) v) f.operands) w)
      (λ v. jumping m t old f is
      (stepped f (switch_target (switch_of m.program k) v) f.operands) is w at)
