-- The frames to which a run comes, and what a valid program has there.
use Rattle.std.specs.Prelude.{◌≡◌, ◌≤◌, ℕ, List, None, Some, false, length, map, slice_get}
use Rattle.grain_fault.specs.Problems.{Problem}
use Rattle.grain_program.specs.declared.code.instruction_set.Op.{Op}
use Rattle.grain_program.specs.Effects.{cursors_taken, takes_of, handling_of, looping_of}
use Rattle.grain_program.specs.Layout.{chunks_in}
use Rattle.grain_program.specs.Starts.{Start}
use Rattle.grain_program.specs.declared.code.parts.Chunk.{Chunk}
use Rattle.grain_program.specs.Shapes.{TryHandler, lacks_handler}
use Rattle.grain_program.specs.Indices.{InPools}
use Rattle.grain_program.specs.Decoding.{op_at}
use Rattle.grain_program.specs.View.{View}
use Rattle.grain_host.specs.Law.{Law}
use Rattle.grain_global.specs.declared.engines.Engine.{Engine}
use Rattle.grain_means.specs.Worlds.{Act, Go, Then, Answer, World, Setup, Frame, Handler, Todo, InFrame, InCatch}
use Rattle.grain_means.specs.Rules.{next, main}
use Rattle.grain_means.specs.Ends.{Ends}
use Rattle.grain_means.specs.Means.{Begin, setup, first_world}

-- where a run stands: at an instruction of a frame, in a world
pub record ProgramPoint (S : Type 0) : Type 0 where
  pub instruction : Op
  pub frame : Frame
  pub world : World S

-- where a handler of a frame, which has the handlers around it, catches a fault, in a world
pub record CatchPoint (S : Type 0) : Type 0 where
  pub frame : Frame
  pub handler : Handler
  pub fault : Problem
  pub world : World S

-- the run of an act comes to this in this world
pub data Comes {S : Type 0} (m : Setup S) (t : Todo) (w : World S) : Act S → Type 0 where
  here : Comes m t w (Go t w)
  further : {u : Todo} {v : World S} → Comes m t w (next m u v) → Comes m t w (Go u v)
  within : {first : Act S} {rest : Answer → World S → Act S} → Comes m t w first →
      Comes m t w (Then first rest)
  behind : {first : Act S} {rest : Answer → World S → Act S} {a : Answer} {v : World S} →
      Ends m first a v → Comes m t w (rest a v) → Comes m t w (Then first rest)

-- a frame blames no step of a chain, and has no position but its instruction's
abbrev pub BlamesNone : Frame → Type 0
BlamesNone f = (f.slot ≡ None) × (f.position ≡ None)

-- the run of an act comes to the point, where the instruction stands and blames no step yet
pub record Meets {S : Type 0} (m : Setup S) (s : ProgramPoint S) (act : Act S) : Type 0 where
  pub comes : Comes m (InFrame s.frame) s.world act
  pub blames : BlamesNone s.frame
  pub width : ℕ
  pub stands : op_at m.program.code s.frame.address ≡ Some (s.instruction, width)

-- the run of an act comes to the point, where a handler catches
abbrev pub ComesToCatch : {S : Type 0} → Setup S → CatchPoint S → Act S → Type 0
ComesToCatch m c act = Comes m (InCatch c.frame c.handler c.fault) c.world act

-- handlers as a typing has them
abbrev pub try_of : Handler → TryHandler
try_of h = record {
  target = h.target;
  variable = h.variable;
  height = h.operands;
  cursors = h.cursors;
}

abbrev pub tries : List Handler → List TryHandler
tries hs = map try_of hs

-- an instruction of a chunk stands where the frame does, and its operands, its cursor, its handler and its
-- entries of the pools are there
pub record Stands (program : View) (f : Frame) : Type 0 where
  pub chunk : Chunk
  pub number : ℕ
  pub is : slice_get (chunks_in program) number ≡ Some chunk
  pub start : Start program.code chunk f.address
  pub instruction : Op
  pub width : ℕ
  pub stands : op_at program.code f.address ≡ Some (instruction, width)
  pub operands : takes_of program instruction ≤ length f.operands
  pub cursor : cursors_taken (looping_of instruction) ≤ length f.cursors
  pub handler : lacks_handler (handling_of instruction) (tries f.handlers) ≡ false
  pub pools : InPools program instruction

-- an instruction stands at each frame to which the program's run comes
abbrev pub Provided : {S : Type 0} → Law S → View → Engine → Begin S → Type 0
Provided {S = S} law program engine b =
    let m : Setup S = setup law program engine in
    (f : Frame) (w : World S) → Comes m (InFrame f) w (main m (first_world b)) → Stands program f
