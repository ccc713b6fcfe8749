-- What stands at the places of a walk once a function that it called is over, or that was called on a
-- receiver.
use Rattle.std.specs.Prelude.{◌≡◌, ◌⊎◌, ◌+◌, ◌++◌, ℕ, List, [], ◌∷◌, Option, Some, if◌then◌else◌, length, take}
use Rattle.grain_value.specs.declared.values.Held.{Held}
use Rattle.grain_fault.specs.Classes.{catchable}
use Rattle.grain_fault.specs.Positions.{at_position}
use Rattle.grain_fault.specs.Problems.{InFunctionCall, NoMemory, Problem}
use Rattle.grain_fault.specs.declared.places.Position.{Position}
use Rattle.grain_program.specs.View.{View, name_of, source_text}
use Rattle.grain_program.specs.declared.code.functions.Function.{Function}
use Rattle.grain_means.specs.Worlds.{Answer, Came, Failed, Frame, Go, InFrame, Place, Setup, World}
use Rattle.grain_means.specs.Rules.{Destination, bound, frame_at, is_read_only, new_root, position, root_over}
use Rattle.grain_means.specs.Ends.{Ends}

-- a fault that left the body of a function which was called at this position
abbrev pub left_body : View → Position → Function → Problem → Problem
left_body p q g x =
    if catchable x then InFunctionCall (name_of p g.name) (source_text p) x q else at_position q x

-- what its caller hears where the body ended so: its value, or its fault, or that memory is out in its place
abbrev pub IsHeard : View → Position → Function → Answer → Answer → Type 0
IsHeard p q g (Came v) b = b ≡ Came v
IsHeard p q g (Failed x) b = (b ≡ Failed (left_body p q g x)) ⊎ (b ≡ Failed NoMemory)

-- A function that was called on these arguments, under a `this` or none, is over, and its caller hears
-- this answer in the world u. Either the body was not entered, and all stands as before; or it ended,
-- and all stands as it left it.
pub data IsOver {S : Type 0} (m : Setup S) (q : Position) (g : Function) (args : List Held)
    (this : Option Place) (w : World S) (b : Answer) (u : World S) : Type 0 where
  not_entered : (x : Problem) → b ≡ Failed x → u.roots ≡ w.roots → u.cells ≡ w.cells →
      IsOver m q g args this w b u
  left : (inside last : World S) (a : Answer) → inside.roots ≡ w.roots → inside.cells ≡ w.cells →
      inside.scope ≡ bound m.program g.params args → inside.level ≡ w.level + 1 →
      Ends m (Go (InFrame (frame_at g.chunk 0 this)) inside) a last → IsHeard m.program q g a b →
      u.roots ≡ last.roots → u.cells ≡ last.cells → IsOver m q g args this w b u

-- the world in which a function is called on a receiver, which is a root of its own
abbrev pub with_receiver : {S : Type 0} → Held → World S → World S
with_receiver h w = record w {
  passed = w.passed + 1;
  roots = w.roots ++ record h { read_only = is_read_only w h } ∷ [];
}

-- A function that was called on a receiver and these arguments is over: its caller hears this answer in this
-- world. The roots before the receiver are as they were, and the call goes on from the receiver's root as
-- the function left it.
pub record ReceiverStays {S : Type 0} (m : Setup S) (d : Destination) (g : Function)
    (args : List Held) (h : Held) (next : ℕ) (f : Frame) (w v : World S) (a : Answer) : Type 0 where
  pub answer : Answer
  pub world : World S
  pub over : IsOver m (position m f) g args (Some (new_root w.roots)) (with_receiver h w) answer world
  pub roots : take (length w.roots) world.roots ≡ w.roots
  pub scope : world.scope ≡ w.scope
  pub level : world.level ≡ w.level
  pub goes_on : Ends m (root_over m d next f (length w.roots) answer world) a v
