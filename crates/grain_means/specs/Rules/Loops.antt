-- Loops over the items of a value, and the transfer by a table of cases.
use Rattle.std.specs.Prelude.{ℕ, ℤ, pos, negsuc, ◌+◌, ◌+ℤ◌, ◌++◌, List, [], ◌∷◌, Option, Some, None, codes, nat_le, if◌then◌else◌}
use Rattle.std.specs.Fmt.{signed_decimal}
use Rattle.grain_value.specs.Items.{items_of}
use Rattle.grain_value.specs.Looking.{cell_of}
use Rattle.grain_value.specs.Operands.{top, below, read_write}
use Rattle.grain_value.specs.Tree.{Tree}
use Rattle.grain_value.specs.View.{value_of}
use Rattle.grain_value.specs.declared.values.Dynamic.TheVariants as dynamic
use Rattle.grain_fault.specs.Problems.{Plain, Arithmetic, For}
use Rattle.grain_ops.specs.Calculations.{fits64}
use Rattle.grain_program.specs.Switches.{switch_target}
use Rattle.grain_program.specs.View.{switch_of}
use Rattle.grain_means.specs.Worlds.{Cursor, Frame, World, Act, Setup}
use Rattle.grain_means.specs.Rules.Frames.{stepped}
use Rattle.grain_means.specs.Rules.Faults.{charged, position, raised}
use Rattle.grain_means.specs.Rules.Going.{onward, jumped}
use Rattle.grain_means.specs.Rules.Reads.{flattened}
use Rattle.grain_means.specs.Rules.Homes.{in_entry}
use Rattle.grain_means.specs.Rules.Entries.{at_slot, written_at}

-- a cursor at its beginning: all of these are left, and none was counted
abbrev pub cursor_over : List Tree → Cursor
cursor_over ts = record { left = ts; counter = negsuc 0 }

-- the innermost cursor; where there is none, which no valid program has at an instruction that asks for
-- one, one that has nothing left
abbrev pub innermost_cursor : List Cursor → Cursor
innermost_cursor [] = cursor_over []
innermost_cursor (c ∷ cs) = c

-- the cursors around the innermost one
abbrev pub outer_cursors : List Cursor → List Cursor
outer_cursors [] = []
outer_cursors (c ∷ cs) = cs

-- a frame with a cursor more
abbrev pub with_cursor : List Tree → Frame → Frame
with_cursor ts f = record f { cursors = cursor_over ts ∷ f.cursors }

-- a frame without its innermost cursor
abbrev pub without_cursor : Frame → Frame
without_cursor f = record f { cursors = outer_cursors f.cursors }

-- a frame whose innermost cursor has these left, and this count
abbrev pub advanced : List Tree → ℤ → Frame → Frame
advanced ts n f =
    record f { cursors = record { left = ts; counter = n } ∷ outer_cursors f.cursors }

-- the text of the fault that a count passes 64 bits
abbrev pub counter_text : ℤ → List ℕ
counter_text n = codes "for-loop counter overflow: " ++ signed_decimal n

module _ {S : Type 0} (m : Setup S) where
  abbrev pub loop_begun : Option (List Tree) → ℕ → Frame → World S → Act S
  loop_begun None next f w = raised m f (Plain For (position m f)) w
  loop_begun (Some ts) next f w = onward m f (with_cursor ts (stepped f next (below f.operands))) w

  -- a loop over the items of the last operand, as it is read
  abbrev pub iter_init : ℕ → Frame → World S → Act S
  iter_init next f w = flattened m (top f.operands) [] f w (λ v. loop_begun (items_of v) next f w)

  -- the innermost loop is left
  abbrev pub iter_drop : ℕ → Frame → World S → Act S
  iter_drop next f w = onward m f (without_cursor (stepped f next f.operands)) w

  -- the count goes to the entry of a slot, if there is one, as a value that can be written
  abbrev pub count_stored : Option ℕ → ℤ → Frame → World S → (World S → Act S) → Act S
  count_stored None n f w go = go w
  count_stored (Some slot) n f w go =
      at_slot m f slot w (λ h. written_at m (in_entry (f.base + slot) (cell_of h.value))
      (read_write (dynamic.Int n)) [] f w go)

  -- an item, as it is read, is the last operand, and the loop has these left, and this count
  abbrev pub item_given : Tree → List Tree → ℤ → ℕ → Frame → World S → Act S
  item_given t ts n next f w =
      flattened m (read_write (value_of t)) [] f w (λ v.
      onward m f (advanced ts n (stepped f next (f.operands ++ read_write v ∷ []))) w)

  -- An item is counted, the count is stored, and then the item is given. A count that passes 64 bits is a
  -- fault.
  abbrev pub item_counted : Tree → List Tree → ℤ → Option ℕ → ℕ → Frame → World S → Act S
  item_counted t ts n slot next f w =
      if fits64 (n +ℤ pos 1) then
      count_stored slot (n +ℤ pos 1) f w (item_given t ts (n +ℤ pos 1) next f)
      else raised m f (Plain (Arithmetic (counter_text n)) (position m f)) w

  -- the loop is left by a transfer, which costs its operation first
  abbrev pub loop_left : ℕ → Frame → World S → Act S
  loop_left target f w =
      if nat_le target f.address
      then charged m f w (onward m f (without_cursor (stepped f target f.operands)))
      else onward m f (without_cursor (stepped f target f.operands)) w

  -- the next of these items; if there is none, the loop is left
  abbrev pub loop_advanced : List Tree → ℤ → ℕ → Option ℕ → ℕ → Frame → World S → Act S
  loop_advanced [] n target slot next f w = loop_left target f w
  loop_advanced (t ∷ ts) n target slot next f w = item_counted t ts n slot next f w

  -- the next item of the innermost loop
  abbrev pub iter_next : ℕ → Option ℕ → ℕ → Frame → World S → Act S
  iter_next target slot next f w =
      loop_advanced (innermost_cursor f.cursors).left (innermost_cursor f.cursors).counter target slot
      next f w

  -- a transfer to the target that a switch has for the last operand, as it is read; the operand stays
  abbrev pub switch : ℕ → Frame → World S → Act S
  switch k f w =
      flattened m (top f.operands) [] f w (λ v.
      jumped m f (stepped f (switch_target (switch_of m.program k) v) f.operands) w)
