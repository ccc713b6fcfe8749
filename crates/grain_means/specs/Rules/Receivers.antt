-- Calls of a pointer with a receiver: a value that the pointer's function has as its `this`, or that its
-- native is lent. During the call the receiver is a root of its own. Afterwards it goes where the
-- instruction says.
use Rattle.std.specs.Prelude.{ℕ, zero, suc, ◌+◌, ◌||◌, List, [], ◌∷◌, ◌++◌, Bool, Option, Some, None, if◌then◌else◌, length, take, map, is_some, slice_get, slice_set}
use Rattle.grain_value.specs.Cells.{idle, lent}
use Rattle.grain_value.specs.Looking.{cell_of, pointer_of}
use Rattle.grain_value.specs.Operands.{arguments, read_write, values_in}
use Rattle.grain_value.specs.Scopes.{set_held}
use Rattle.grain_value.specs.declared.stores.Cell.{Cell}
use Rattle.grain_value.specs.declared.values.Dynamic.{Dynamic}
use Rattle.grain_value.specs.declared.values.FnPtr.{FnPtr}
use Rattle.grain_value.specs.declared.values.Held.{Held}
use Rattle.grain_fault.specs.Problems.{Plain, DataRace, NoMemory}
use Rattle.grain_program.specs.declared.code.functions.Function.{Function}
use Rattle.grain_means.specs.Worlds.{Answer, Came, Failed, Place, Frame, World, Act, Setup}
use Rattle.grain_means.specs.Places.{look, put}
use Rattle.grain_means.specs.Rules.Frames.{without, held_at, is_read_only}
use Rattle.grain_means.specs.Rules.Faults.{race_text, no_memory, position, marked, offered}
use Rattle.grain_means.specs.Rules.Going.{pushed}
use Rattle.grain_means.specs.Rules.Reads.{flat_all, flattened}
use Rattle.grain_means.specs.Rules.Entries.{slot_past_scope}
use Rattle.grain_means.specs.Rules.Natives.{native_or}
use Rattle.grain_means.specs.Rules.Calls.{function_by_name}
use Rattle.grain_means.specs.Rules.Pointers.{curried_in, operand_under, not_a_pointer, pointer_called}
use Rattle.grain_means.specs.Rules.InWorld.{lent_at, failed_so, function_called}
use Rattle.grain_means.specs.Rules.Chains.{new_root}

-- where a receiver goes after its call: it is dropped, or it goes to the entry of a slot, or to the
-- frame's `this`
pub data Destination : Type 0 where
  Nowhere : Destination
  ToSlot : ℕ → Destination
  ToThis : Destination

-- the root of a number
abbrev pub root_at : ℕ → Place
root_at n = record { root = n; path = [] }

module _ {S : Type 0} (m : Setup S) where
  -- A call is over, in a frame without the call's operands: its value is pushed, or its fault is offered
  -- to the frame's handlers.
  abbrev pub call_over : ℕ → Frame → Answer → World S → Act S
  call_over next f (Came v) w = pushed m f next f.operands v w
  call_over next f (Failed x) w = offered m f x w

  -- There is no entry at the index to which the receiver goes. That is the fault, in place of what the
  -- call gave, unless memory is out. It did not leave the frames that a fault of the call left.
  abbrev pub over_without_entry : ℕ → ℕ → Frame → Answer → World S → Act S
  over_without_entry i next f (Came v) w = slot_past_scope m f i w
  over_without_entry i next f (Failed x) w =
      if no_memory x then call_over next f (Failed x) w
      else slot_past_scope m f i (record w { trace = [] })

  -- the receiver replaces what stands in the entry at an index
  abbrev pub over_in_entry : Option Held → ℕ → Held → ℕ → Frame → Answer → World S → Act S
  over_in_entry None i h next f a w = over_without_entry i next f a w
  over_in_entry (Some before) i h next f a w =
      call_over next f a (record w { scope = set_held w.scope i h })

  -- the receiver replaces what stands at the place of the frame's `this`, if it has one
  abbrev pub over_in_this : Option Place → Held → ℕ → Frame → Answer → World S → Act S
  over_in_this None h next f a w = call_over next f a w
  over_in_this (Some p) h next f a w =
      call_over next f a (record w { roots = put w.roots p h.value })

  abbrev pub over_at : Destination → Held → ℕ → Frame → Answer → World S → Act S
  over_at Nowhere h next f a w = call_over next f a w
  over_at (ToSlot slot) h next f a w =
      over_in_entry (held_at w.scope (f.base + slot)) (f.base + slot) h next f a w
  over_at ToThis h next f a w = over_in_this f.this h next f a w

  -- The call of a receiver is over, which is still this. If it is a cell, or can only be read, it
  -- goes nowhere.
  abbrev pub receiver_over : Destination → ℕ → Frame → Held → Answer → World S → Act S
  receiver_over d next f h a w =
      if is_some (cell_of h.value) || h.read_only then call_over next f a w
      else over_at d h next f a w

  -- The same where the receiver is the root of number n, which goes.
  abbrev pub root_over : Destination → ℕ → Frame → ℕ → Answer → World S → Act S
  root_over d next f n a w =
      receiver_over d next f (look w.roots (root_at n)) a (record w { roots = take n w.roots })

  -- a native is called, which is lent what stands at the place
  abbrev pub native_lent : List ℕ → List Held → Frame → (Answer → World S → Act S) → Place →
      World S → Act S
  native_lent name args f heard p w =
      native_or m (heard (Failed NoMemory)) name (lent_at w.roots (Some p)) args f w
      (λ v w1. heard (Came v) w1) (failed_so m heard)

  -- What a native was lent of the cell of number n, which held this, is the root of number k: it goes back.
  abbrev pub cell_given_back : ℕ → Held → ℕ → (Answer → World S → Act S) → Answer → World S → Act S
  cell_given_back n held k heard a w =
      heard a (record w {
        cells = slice_set w.cells n
            (idle (record held { value = (look w.roots (root_at k)).value }));
        roots = take k w.roots;
      })

  -- A native is called, which is lent what the cell of number n holds: that is a root, which can only be
  -- read if the flag says so. If it is lent already, or the cell is not there, that is a fault.
  abbrev pub native_lent_cell : Option Cell → ℕ → Bool → List ℕ → List Held → Frame →
      (Answer → World S → Act S) → World S → Act S
  native_lent_cell None n read_only name args f heard w =
      failed_so m heard (Plain (DataRace (race_text [])) (position m f)) w
  native_lent_cell (Some c) n read_only name args f heard w =
      if c.busy then failed_so m heard (Plain (DataRace (race_text [])) (position m f)) w
      else
      native_lent name args f (cell_given_back n c.held (length w.roots) heard) (new_root w.roots)
      (record w {
        roots = w.roots ++ record { value = c.held.value; read_only = read_only } ∷ [];
        cells = slice_set w.cells n (lent c.held);
      })

  -- a native is called on a receiver, which is the root at a place and holds this
  abbrev pub native_on : Option ℕ → Held → List ℕ → List Held → Frame →
      (Answer → World S → Act S) → Place → World S → Act S
  native_on None h name args f heard p w = native_lent name args f heard p w
  native_on (Some n) h name args f heard p w =
      native_lent_cell (slice_get w.cells n) n h.read_only name args f heard w

  -- the same on arguments as they are read, if none of them is a lent cell
  abbrev pub native_on_read : Option (List Held) → List ℕ → Frame → (Answer → World S → Act S) →
      Place → World S → Act S
  native_on_read None name f heard p w =
      failed_so m heard (Plain (DataRace (race_text [])) (position m f)) w
  native_on_read (Some args) name f heard p w =
      let h = look w.roots p in native_on (cell_of h.value) h name args f heard p w

  -- the function that a pointer names is called on a receiver, which is the root at a place, or, if there
  -- is none, the native of that name
  abbrev pub callee_on : Option Function → FnPtr → List Held → Frame →
      (Answer → World S → Act S) → Place → World S → Act S
  callee_on None r args f heard p w =
      native_on_read (flat_all w.cells args) r.name f heard p w
  callee_on (Some g) r args f heard p w =
      function_called m (position m f) g args heard (Some p) w

  -- A pointer is called on a receiver, with these values after its own. After a mark the receiver
  -- is a root. What can only be read as a cell can only be read by its own flag then.
  abbrev pub receiver_called : Destination → FnPtr → List Dynamic → Held → ℕ → Frame → World S → Act S
  receiver_called d r values h next f w =
      marked m f w (λ w1.
      callee_on (function_by_name m.program r.name (length r.curry + length values)) r
      (curried_in r ++ map read_write values) f
      (root_over d next f (length w1.roots)) (new_root w1.roots)
      (record w1 { roots = w1.roots ++ record h { read_only = is_read_only w1 h } ∷ [] }))

  -- the first argument, which is this as it is read, is the pointer, and has n more arguments after it
  abbrev pub first_called : Destination → Option FnPtr → Dynamic → ℕ → ℕ → Frame → World S → Act S
  first_called d None v n next f w = not_a_pointer m v f w
  first_called d (Some r) v n next f w =
      receiver_called d r (values_in (arguments n f.operands)) (operand_under (n + 1) f.operands) next
      (without (n + 1 + 1) f) w

  -- The target, which is this as it is read, is called on n arguments, if it is a pointer. If not, it is
  -- the receiver, and the first argument is the pointer.
  abbrev pub target_called : Destination → Option FnPtr → Dynamic → ℕ → ℕ → Frame → World S → Act S
  target_called d (Some r) v n next f w = pointer_called m (Some r) v n next f w
  target_called d None v zero next f w = not_a_pointer m v f w
  target_called d None v (suc n) next f w =
      flattened m (operand_under n f.operands) [] f w
      (λ u. first_called d (pointer_of u) u n next f w)

  abbrev pub method_call : Destination → ℕ → ℕ → Frame → World S → Act S
  method_call d n next f w =
      flattened m (operand_under n f.operands) [] f w
      (λ v. target_called d (pointer_of v) v n next f w)
