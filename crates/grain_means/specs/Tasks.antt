-- What a walk does, as a tree of single actions. A walk knows its own roots alone: the one at which it
-- begins has number 0.
use Rattle.std.specs.Prelude.{ℕ, suc, ◌+◌, List, [], ◌∷◌, ◌++◌, Option, Bool, take, if◌then◌else◌}
use Rattle.grain_value.specs.Cells.{flat}
use Rattle.grain_value.specs.declared.stores.Cell.{Cell}
use Rattle.grain_value.specs.declared.values.Dynamic.{Dynamic}
use Rattle.grain_value.specs.declared.values.FnPtr.{FnPtr}
use Rattle.grain_value.specs.declared.values.Held.{Held}
use Rattle.grain_fault.specs.Problems.{Problem}
use Rattle.grain_fault.specs.declared.places.Position.{Position}
use Rattle.grain_means.specs.Worlds.{Place, Answer, is_stop}
use Rattle.grain_means.specs.Places.{look, put}

-- how a walk ends: with a value and whether something changed, or with a fault at a step
pub data Walked : Type 0 where
  WalkEnded : Dynamic → (changed : Bool) → Walked
  WalkFailed : (step : ℕ) → Problem → Walked

-- a native that a walk needs: the step that needs it, the position of its faults, its name, the place
-- that is lent to it, if any, and its other arguments
pub record Call : Type 0 where
  pub step : ℕ
  pub position : Position
  pub name : List ℕ
  pub receiver : Option Place
  pub values : List Dynamic

-- which function a walk calls: the program's function of this number, or the one that a pointer names
pub data Method : Type 0 where
  Numbered : ℕ → Method
  Pointed : FnPtr → Method

-- a function that a walk calls: the step that calls it, the position of its faults, which one, the place
-- that is its `this`, if it has one, and its arguments
pub record Invocation : Type 0 where
  pub step : ℕ
  pub position : Position
  pub method : Method
  pub this : Option Place
  pub values : List Dynamic

pub data Task : Type 0 where
  -- the walk is over
  Done : Walked → Task
  -- a mark: what is done if memory is out there, and what is done if it is not
  Mark : Task → Task → Task
  -- the value at a place is looked at
  Look : Place → (Held → Task) → Task
  -- a value is read: if it is a cell, this gives its content, or nothing if that is lent
  Flatten : Dynamic → (Option Dynamic → Task) → Task
  -- a value is written at a place
  Write : Place → Dynamic → Task → Task
  -- a new root, after all others
  Root : Held → Task → Task
  -- the root after the one of this number is dropped, with all after it; this gives what it held
  Drop : ℕ → (Held → Task) → Task
  -- a native is called
  Need : Call → (Answer → Task) → Task
  -- a function is called
  Invoke : Invocation → (Answer → Task) → Task

-- a walk by itself: its roots, and how many marks it passed
pub record Own : Type 0 where
  pub roots : List Held
  pub passed : ℕ

-- where a walk by itself stops: it is over, or it needs a native, or it calls a function
pub data Play : Type 0 where
  Over : Walked → Own → Play
  Asks : Call → (Answer → Task) → Own → Play
  Calls : Invocation → (Answer → Task) → Own → Play

-- the place that is the whole root after the one of this number
abbrev pub root_after : ℕ → Place
root_after n = record { root = suc n; path = [] }

-- a walk by itself, with these cells, up to where it stops; memory is out at the mark
-- `stop`, if one is given
abbrev pub play : Option ℕ → List Cell → Task → Own → Play
play stop cells (Done o) s = Over o s
play stop cells (Mark out go) s =
    if is_stop stop s.passed then play stop cells out s
    else play stop cells go (record s { passed = s.passed + 1 })
play stop cells (Look p f) s = play stop cells (f (look s.roots p)) s
play stop cells (Flatten v f) s = play stop cells (f (flat cells v)) s
play stop cells (Write p v t) s = play stop cells t (record s { roots = put s.roots p v })
play stop cells (Root h t) s = play stop cells t (record s { roots = s.roots ++ h ∷ [] })
play stop cells (Drop n f) s =
    play stop cells (f (look s.roots (root_after n))) (record s { roots = take (suc n) s.roots })
play stop cells (Need c f) s = Asks c f s
play stop cells (Invoke i f) s = Calls i f s
