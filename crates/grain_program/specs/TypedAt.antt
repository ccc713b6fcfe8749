-- A frame that stands at an instruction with as many operands and cursors and with such handlers as a
-- typing says, and what the verifier has shown of that instruction.
use Rattle.std.specs.Prelude.{ℕ, ◌≡◌, ◌<◌, ◌≤◌, ◌+◌, ◌-◌, false, List, [], ◌∷◌, length, slice_get, Option, Some, None}
use Rattle.grain_program.specs.declared.code.instruction_set.Op.{Op}
use Rattle.grain_program.specs.declared.code.parts.Chunk.{Chunk}
use Rattle.grain_program.specs.View.{View}
use Rattle.grain_program.specs.Effects.{takes_of, gives_of, cursors_taken, looping_of, handling_of, effect_of}
use Rattle.grain_program.specs.Indices.{InPools}
use Rattle.grain_program.specs.Layout.{chunks_in, most_code}
use Rattle.grain_program.specs.Shapes.{Shape, TryHandler, shape, after, Arrival, arrivals, lacks_handler}
use Rattle.grain_program.specs.Starts.{Start}
use Rattle.grain_program.specs.Typing.{In, Typing}

-- the variable, if there is one, has a name of the pool
abbrev pub HasName : View → Option ℕ → Type 0
HasName p None = Unit {0}
HasName p (Some n) = n < length p.names

-- of each handler, which stands above this number of operands and of cursors: there were no more at
-- its push, its variable has a name, and at its target, which is an instruction of the chunk, the
-- typing has as many operands and cursors as there were then, and this handler with those around it
abbrev pub Covers : View → Chunk → (ℕ → Option Shape) → ℕ → ℕ → List TryHandler → Type 0
Covers p c typing depth cursors [] = Unit {0}
Covers p c typing depth cursors (h ∷ hs) =
    (h.height ≤ depth) × (h.cursors ≤ cursors) × HasName p h.variable × Start p.code c h.target
    × (typing h.target ≡ Some (shape h.height h.cursors (h ∷ hs)))
    × Covers p c typing h.height h.cursors hs

-- the handlers of a frame of the chunk, which has this number of operands and of cursors, or more than
-- they need, stand in a typing
pub record IsCovered (p : View) (c : Chunk) (depth cursors : ℕ) (handlers : List TryHandler)
    : Type 0 where
  pub number : ℕ
  pub is : slice_get (chunks_in p) number ≡ Some c
  pub typing : ℕ → Option Shape
  pub typed : Typing p (chunks_in p) typing
  pub low : depth ≤ c.max_stack
  pub covers : Covers p c typing depth cursors handlers

-- a frame of the chunk stands at an instruction, with as many operands and cursors and with such
-- handlers as a typing says
pub record IsTypedAt (p : View) (c : Chunk) (at depth cursors : ℕ) (handlers : List TryHandler)
    : Type 0 where
  pub number : ℕ
  pub is : slice_get (chunks_in p) number ≡ Some c
  pub start : Start p.code c at
  pub typing : ℕ → Option Shape
  pub typed : Typing p (chunks_in p) typing
  pub known : typing at ≡ Some (shape depth cursors handlers)
  pub low : depth ≤ c.max_stack
  pub covers : Covers p c typing depth cursors handlers

-- what validity says of the instruction at which a frame stands, whatever its cursors and handlers
-- are
pub record Provides (p : View) (c : Chunk) (at depth : ℕ) (op : Op) (width : ℕ) : Type 0 where
  pub enough : takes_of p op ≤ depth
  pub room : depth - takes_of p op + gives_of op ≤ c.max_stack
  pub pools : InPools p op
  pub inside : at + width ≤ most_code
  pub wide : 1 ≤ width

-- what validity says of the instruction at which a frame stands
pub record Verified (p : View) (c : Chunk) (at depth cursors : ℕ) (handlers : List TryHandler)
    (op : Op) (width : ℕ) : Type 0 where
  pub provides : Provides p c at depth op width
  pub cursor : cursors_taken (looping_of op) ≤ cursors
  pub handler : lacks_handler (handling_of op) handlers ≡ false
  -- the operands and the cursors that the handlers need stay
  pub covered :
      IsCovered p c (depth - takes_of p op) (cursors - cursors_taken (looping_of op)) handlers
  pub goes : (x : Arrival)
      → In x (arrivals p (effect_of p op) (at + width)
      (after (effect_of p op) (shape depth cursors handlers)))
      → IsTypedAt p c x.address x.shape.height x.shape.cursors x.shape.handlers
