-- What a run stands on: worlds, frames, and what is still to be done.
use Rattle.std.specs.Prelude.{ℕ, ℤ, Bool, false, nat_eq, List, Option, Some, None}
use Rattle.grain_value.specs.declared.values.Dynamic.{Dynamic}
use Rattle.grain_value.specs.declared.values.FnPtr.{FnPtr}
use Rattle.grain_value.specs.declared.values.Held.{Held}
use Rattle.grain_value.specs.Tree.{Tree}
use Rattle.grain_value.specs.declared.scopes.Entry.{Entry}
use Rattle.grain_value.specs.declared.stores.Cell.{Cell}
use Rattle.grain_value.specs.declared.values.paths.PathStep.{PathStep}
use Rattle.grain_fault.specs.declared.places.Position.{Position}
use Rattle.grain_fault.specs.declared.traces.Fault.{Fault}
use Rattle.grain_fault.specs.Problems.{Problem}
use Rattle.grain_program.specs.View.{View}
use Rattle.grain_host.specs.Law.{Law}
use Rattle.grain_global.specs.declared.engines.Engine.{Engine}

-- how a run ends
pub data Answer : Type 0 where
  Came : Dynamic → Answer
  Failed : Problem → Answer

-- where a value stands: the number of a root, and the way from it
pub record Place : Type 0 where
  pub root : ℕ
  pub path : List PathStep

-- where a value is held that is lent or written: in the entry of the scope at this index, in the cell of
-- this number, or at a place among the roots
pub data Home : Type 0 where
  InScope : ℕ → Home
  InCell : ℕ → Home
  AtPlace : Place → Home

-- what a native is lent: what is held, and where it stands
pub record Receiver : Type 0 where
  pub home : Home
  pub held : Held

-- A loop of a frame: the items that are left, and the number of the last one that was given, from -1 on.
pub record Cursor : Type 0 where
  pub left : List Tree
  pub counter : ℤ

-- how many elements of arrays and of maps, and how many bytes of texts, a literal has so far
pub record Total : Type 0 where
  pub arrays : ℕ
  pub maps : ℕ
  pub text : ℕ

-- A handler of a frame: where the frame goes on after a catch, the index of the name of its
-- variable, if it has one, how many operands, cursors, totals and entries of the scope there were where
-- it was pushed, and the fault that it has caught: it is armed until it has caught one.
pub record Handler : Type 0 where
  pub target : ℕ
  pub variable : Option ℕ
  pub operands : ℕ
  pub cursors : ℕ
  pub totals : ℕ
  pub scope : ℕ
  pub caught : Option Problem

-- A frame: the address of its instruction, its own operands, the newest last, its own cursors, totals
-- and handlers, of each the innermost first, the scope's length at its entry, from which its slots
-- count, the length to which a fault cuts the scope, and the place of its `this`, if any. While it
-- walks a chain, and until a fault of the walk is caught, it has the slot by which a trace names the
-- step that is blamed; while a step is done, it has the position that stands in place of its
-- instruction's.
pub record Frame : Type 0 where
  pub address : ℕ
  pub operands : List Held
  pub cursors : List Cursor
  pub totals : List Total
  pub handlers : List Handler
  pub base : ℕ
  pub floor : ℕ
  pub this : Option Place
  pub slot : Option ℕ
  pub position : Option Position

-- The world of a run on a host whose states are S.
pub record World (S : Type 0) : Type 0 where
  -- values that stand in no scope
  pub roots : List Held
  pub scope : List Entry
  pub cells : List Cell
  pub host : S
  -- operations so far
  pub count : ℕ
  pub level : ℕ
  pub trace : List Fault
  -- how many instructions were begun
  pub ran : ℕ
  -- how many marks were passed: at each of them memory may be out
  pub passed : ℕ
  -- the tokens that the host gave and that were not taken back, the last one first; none, once one was
  -- taken that is not the first
  pub tokens : Option (List ℕ)

-- A call that a native asked for: what the native was lent, the frame whose instruction or step called
-- the native, the token by which the host is resumed, and the pointer that is called, with the values that
-- go after its own.
pub record Callback : Type 0 where
  pub receiver : Option Receiver
  pub frame : Frame
  pub token : ℕ
  pub pointer : FnPtr
  pub values : List Tree

-- what a run can stand at
pub data Todo : Type 0 where
  -- an instruction of a frame
  InFrame : Frame → Todo
  -- a fault in a frame, which this armed handler catches; the frame has the handlers around it
  InCatch : Frame → Handler → Problem → Todo
  -- a call that a native asked for
  InHost : Callback → Todo

-- a run: go on with something, end, or do one run and then another with its answer
pub data Act (S : Type 0) : Type 0 where
  Go : Todo → World S → Act S
  End : Answer → World S → Act S
  Then : Act S → (Answer → World S → Act S) → Act S

-- whether memory is out at the mark before which this many were passed
abbrev pub is_stop : Option ℕ → ℕ → Bool
is_stop None passed = false
is_stop (Some k) passed = nat_eq k passed

-- what stays the same in a run on a host whose states are S
pub record Setup (S : Type 0) : Type 0 where
  pub law : Law S
  pub program : View
  pub engine : Engine
  -- the mark at which memory is out, if any
  pub stop : Option ℕ
