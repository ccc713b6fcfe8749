-- Cursors over ranges, which are advanced in place.
use Rattle.std.specs.Prelude.{◌≡◌, ◌<ℤ◌, ◌+ℤ◌, ◌^◌, ℤ, pos, negsuc, ◌∷◌}
use Rattle.grain_value.specs.Tree.{integer}
use Rattle.grain_stack.specs.Cursors.{items_left}
use Rattle.grain_stack.specs.declared.cursors.Cursor.{Cursor}
use Rattle.grain_stack.specs.declared.cursors.Left.{Left}
use Rattle.grain_stack.specs.declared.cursors.Left.TheVariants as left

-- the integers of a range, of which this is the first and not the last
abbrev pub BeginsWith : Left → ℤ → Type 0
BeginsWith (left.Values values next) z = ⊥
BeginsWith (left.Bytes bytes next) z = ⊥
BeginsWith (left.Characters text next) z = ⊥
BeginsWith (left.Range from to inclusive) z = (from ≡ z) × (z <ℤ to)

-- an integer of 64 bits
abbrev pub Fits64 : ℤ → Type 0
Fits64 z = (negsuc (2 ^ 63) <ℤ z) × (z <ℤ pos (2 ^ 63))

-- the cursor goes over a range, comes to this integer next and to another one after it, and can count
-- one more
pub record HasNext (c : Cursor) (z : ℤ) : Type 0 where
  pub begins : BeginsWith c.left z
  pub rises : Fits64 (z +ℤ pos 1)
  pub counts : Fits64 (c.counter +ℤ pos 1)

-- this was the first of the items that the cursor had left; it no longer is, and was counted
pub record Passes (c : Cursor) (z : ℤ) (d : Cursor) : Type 0 where
  pub items : items_left c.left ≡ integer z ∷ items_left d.left
  pub counter : d.counter ≡ c.counter +ℤ pos 1
