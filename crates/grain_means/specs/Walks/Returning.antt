-- The new roots of a walk, and the way back over them.
use Rattle.std.specs.Prelude.{ℕ, Bool, false, true, Option, Some, None, if◌then◌else◌}
use Rattle.grain_value.specs.Operands.{read_write}
use Rattle.grain_value.specs.Parts.{with_part, part_type}
use Rattle.grain_value.specs.Writing.{type_name_of}
use Rattle.grain_value.specs.declared.values.Dynamic.{Dynamic}
use Rattle.grain_value.specs.declared.values.Held.{Held}
use Rattle.grain_value.specs.declared.values.locating.Spot.{Spot}
use Rattle.grain_fault.specs.Problems.{Plain, MismatchDataType}
use Rattle.grain_fault.specs.declared.places.Position.{Position}
use Rattle.grain_means.specs.Worlds.{Place}
use Rattle.grain_means.specs.Places.{next_root}
use Rattle.grain_means.specs.Tasks.{Walked, WalkEnded, WalkFailed, Task, Look, Write, Root, Drop}
use Rattle.grain_means.specs.Walks.Asking.{Setting, Rest, Next, at_mark, failing, flattening, set_by_index, set_property}

-- what a new root is, and so what becomes of it on the way back
pub data Origin : Type 0 where
  -- a byte, a character or a bit of what stands at the place: it is put back
  OfPart : Spot → Origin
  -- what an indexer gave for an index, or a missing key's unit: an indexer sets it, and its faults have
  -- this position
  OfIndex : (index : Dynamic) → Position → Origin
  -- what a getter gave for the property of this name: the setter of this name sets it. The flag says
  -- that the chain assigns the property, and does not only change what stands in it.
  OfProperty : (name setter : ℕ) → Position → (assigned : Bool) → Origin
  -- what a method gave: nothing sets it, and it counts as a change, whatever was done in it
  OfMethod : Origin
  -- what nothing sets: a missing key's unit, or a byte, a character or a bit that the chain reads
  OfNothing : Origin

-- whether it counts as a change, whatever was done in the new root
abbrev pub is_change : Origin → Bool
is_change OfMethod = true
is_change o = false

-- an answer that is the chain's own value, as it is given
abbrev pub own_value : Origin → Rest → Dynamic → Task
own_value o done v = done (WalkEnded v (is_change o))

module _ (g : Setting) where
  abbrev pub put_part : ℕ → Spot → Place → Dynamic → Dynamic → Bool → Rest → Option Dynamic → Task
  put_part n s p v u changed done (Some d) =
      at_mark n done (Write p d (done (WalkEnded u changed)))
  put_part n s p v u changed done None =
      failing n (Plain (MismatchDataType (part_type s) (type_name_of v)) g.position) done

  -- A new root, which held this, is set back at the place whose step gave it, where something in it
  -- changed. A byte, a character or a bit is put back also where nothing says so, since a native to
  -- which it is lent may have written it.
  abbrev pub set_back : ℕ → Origin → Place → Dynamic → Dynamic → Bool → Rest → Task
  set_back n (OfPart s) p v u changed done =
      at_mark n done (Look p (λ h. put_part n s p v u changed done (with_part h.value s v)))
  set_back n (OfIndex i q) p v u changed done =
      if changed then set_by_index n q p i v u done else done (WalkEnded u false)
  set_back n (OfProperty name setter q assigned) p v u changed done =
      if changed then set_property g n name setter q assigned p v u done else done (WalkEnded u false)
  set_back n OfMethod p v u changed done = done (WalkEnded u true)
  set_back n OfNothing p v u changed done = done (WalkEnded u changed)

  -- The way back over a new root: it goes, and where all went well, it is set back.
  abbrev pub back : ℕ → Origin → Place → Rest → Walked → Task
  back n o p done (WalkFailed k x) = Drop p.root (λ h. done (WalkFailed k x))
  back n o p done (WalkEnded u changed) = Drop p.root (λ h. set_back n o p h.value u changed done)

  -- the walk goes on in a new root
  abbrev pub rooted : ℕ → Origin → Held → Next → Place → Rest → Task
  rooted n o h next p done = at_mark n done (Root h (next (next_root p) (back n o p done)))

  -- The walk goes on in an answer as it is read, which is a new root. The chain's own value, at its last
  -- step, is the answer as it is given, which may be a cell, and no root.
  abbrev pub into_answer : ℕ → Position → Bool → Origin → Next → Place → Rest → Dynamic → Task
  into_answer n q own o next p done v =
      if own then own_value o done v
      else flattening n q v done (λ u. rooted n o (read_write u) next p done)
