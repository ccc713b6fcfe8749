-- Why a chain ends in a fault, at a point of a program.
use Rattle.std.specs.Prelude.{◌≡◌, ◌≤◌, ◌⊎◌, ◌+◌, ◌&&◌, ℕ, List, [], ◌∷◌, ◌++◌, Option, Some, None, true, false, length, slice_get, slice_set}
use Rattle.grain_value.specs.Cells.{content, flat, lent}
use Rattle.grain_value.specs.Operands.{top}
use Rattle.grain_value.specs.declared.natives.Native.{Native}
use Rattle.grain_value.specs.declared.stores.Cell.{Cell}
use Rattle.grain_value.specs.declared.values.Dynamic.{Dynamic}
use Rattle.grain_value.specs.declared.values.Held.{Held}
use Rattle.grain_fault.specs.Positions.{at_position}
use Rattle.grain_fault.specs.declared.places.Position.{Position}
use Rattle.grain_fault.specs.Problems.{Problem, Plain, AssignmentToConstant, DataRace, Malformed, UnboundThis}
use Rattle.grain_fault.specs.declared.faults.MalformedKind.TheVariants as kind
use Rattle.grain_program.specs.Chains.{assigns}
use Rattle.grain_program.specs.View.{chain_of}
use Rattle.grain_program.specs.declared.code.chains.Chain.{Chain}
use Rattle.grain_program.specs.declared.code.chains.Root.{Root}
use Rattle.grain_program.specs.declared.code.chains.Root.TheVariants as root
use Rattle.grain_program.specs.declared.code.chains.Tail.{Tail}
use Rattle.grain_program.specs.declared.code.chains.Tail.TheVariants as tail
use Rattle.grain_program.specs.declared.code.instruction_set.Op.TheVariants as op
use Rattle.grain_means.specs.Comes.{ProgramPoint}
use Rattle.grain_means.specs.Worlds.{Callback, Frame, Place, Setup, World}
use Rattle.grain_means.specs.Places.{look}
use Rattle.grain_means.specs.Rules.{assigned_operand, course_of, held_at, is_read_only, lent_cell, new_root, position, race_text, root_name, root_position}
use Rattle.grain_means.specs.Causes.Questions.{IsCalled, Question, begun, native_asked}
use Rattle.grain_means.specs.Causes.Callbacks.{AsksFirst, asked_by, asked_in}
use Rattle.grain_means.specs.Causes.Natives.{AsksNative, HostAnswers}
use Rattle.grain_means.specs.Causes.Spots.{BackFails, ChainWalk, PointedLeft, WalkAsks, WalkRow}

-- what a chain's root holds
abbrev pub RootHolds : {S : Type 0} → Root → Frame → World S → Held → Type 0
RootHolds (root.Local name slot) f w h = held_at w.scope (f.base + slot) ≡ Some h
RootHolds (root.This q) f w h = (p : Place) × (f.this ≡ Some p) × (h ≡ look w.roots p)
RootHolds root.Temporary f w h = h ≡ top f.operands

-- what a chain assigns, as it is read, if it assigns something
abbrev pub AssignsValue : {S : Type 0} → Tail → Held → World S → Option Dynamic → Type 0
AssignsValue tail.Read h w v = v ≡ None
AssignsValue (tail.Assign a) h w v =
    (u : Dynamic) × (v ≡ Some u) × (flat w.cells h.value ≡ Some u)

-- The root r with which the walk begins, and the cells then, where the chain's root holds h. If h is the
-- cell of number i, its content is lent, and is r, which can only be read if h can only be read. Else r
-- is h.
abbrev pub RootLends : {S : Type 0} → Option ℕ → Held → World S → Held → List Cell → Type 0
RootLends None h w r cells = (r ≡ h) × (cells ≡ w.cells)
RootLends (Some i) h w r cells =
    (a : Cell) × (slice_get w.cells i ≡ Some a) × (a.busy ≡ false) ×
    (r ≡ record { value = a.held.value; read_only = is_read_only w h }) ×
    (cells ≡ slice_set w.cells i (lent a.held))

-- the world once the instruction at the point has begun: it is counted, and its mark is passed
abbrev pub begun_at : {S : Type 0} → ProgramPoint S → World S
begun_at at = begun at.world

-- The chain has found what its root holds, which is not read-only if the chain assigns, and has read the
-- value that it assigns, if any.
pub record ChainReads {S : Type 0} (m : Setup S) (c : Chain) (at : ProgramPoint S) : Type 0 where
  pub held : Held
  pub holds : RootHolds c.root at.frame at.world held
  pub writable : assigns c.tail && is_read_only at.world held ≡ false
  pub value : Option Dynamic
  pub reads : AssignsValue c.tail (assigned_operand c at.frame.operands) at.world value

-- where the walk's first root is, and how many other roots there are: at the place of a `this` that is
-- the chain's root and no lent cell, and else after all roots
abbrev pub walk_place : Root → Option ℕ → Option Place → List Held → Place
walk_place (root.This q) None (Some p) roots = p
walk_place r cell this roots = new_root roots

abbrev pub walk_roots : Root → Option ℕ → Option Place → Held → List Held → List Held
walk_roots (root.This q) None (Some p) h roots = roots
walk_roots r cell this h roots = roots ++ h ∷ []

-- the walk of a chain that has read them, from the root r and beside these cells
abbrev pub walk_of : {S : Type 0} → Setup S → Chain → ProgramPoint S → Option Dynamic → Option ℕ →
    Held → List Cell → ChainWalk S
walk_of m c at value cell r cells =
    let roots = walk_roots c.root cell at.frame.this r at.world.roots in record {
      course = course_of m c at.frame value;
      steps = c.steps;
      place = walk_place c.root cell at.frame.this at.world.roots;
      others = length roots;
      start = record (begun_at at) {
        passed = at.world.passed + 1 + 1;
        cells = cells;
        roots = roots;
      };
    }

-- Why a chain ends in this fault, for which the step of this number is blamed: the chain's root is an
-- entry that is not there, or a `this` that the frame has not; or the chain assigns, and its root can
-- only be read; or the value that it assigns, or its root, is a cell whose content is lent; or its walk
-- ends in the fault.
pub data ChainRow {S : Type 0} (m : Setup S) (c : Chain) (at : ProgramPoint S) : ℕ → Problem →
    Type 0 where
  past_scope : (name slot : ℕ) → c.root ≡ root.Local name slot →
      length at.world.scope ≤ at.frame.base + slot →
      ChainRow m c at 0 (Plain (Malformed (kind.SlotPastScope (at.frame.base + slot)
      (length at.world.scope))) (position m at.frame))
  unbound : (q : Position) → c.root ≡ root.This q → at.frame.this ≡ None →
      ChainRow m c at 0 (Plain UnboundThis q)
  constant : (h : Held) → RootHolds c.root at.frame at.world h →
      assigns c.tail && is_read_only at.world h ≡ true →
      ChainRow m c at 0
      (Plain (AssignmentToConstant (root_name m.program c.root)) (root_position m c.root at.frame))
  value_lent : (h : Held) → RootHolds c.root at.frame at.world h →
      assigns c.tail && is_read_only at.world h ≡ false → assigns c.tail ≡ true →
      flat at.world.cells (assigned_operand c at.frame.operands).value ≡ None →
      ChainRow m c at 0 (Plain (DataRace (race_text [])) (position m at.frame))
  root_lent : (so_far : ChainReads m c at) → (i : ℕ) →
      lent_cell m.program c.steps so_far.held ≡ Some i → content (slice_get at.world.cells i) ≡ None →
      ChainRow m c at 0
      (Plain (DataRace (race_text (root_name m.program c.root))) (position m at.frame))
  by_walk : {n : ℕ} {x : Problem} (so_far : ChainReads m c at) (r : Held) (cells : List Cell) →
      RootLends (lent_cell m.program c.steps so_far.held) so_far.held at.world r cells →
      WalkRow m (walk_of m c at so_far.value (lent_cell m.program c.steps so_far.held) r cells) n x →
      ChainRow m c at n x

-- The walk of a chain calls a native in its step of this number, and a function that the native calls back
-- is left by a fault that no script may catch; with that fault the walk ends.
pub record LeavesNative {S : Type 0} (m : Setup S) (c : Chain) (at : ProgramPoint S) (n : ℕ)
    (x : Problem) : Type 0 where
  pub so_far : ChainReads m c at
  pub root : Held
  pub cells : List Cell
  pub lends : RootLends (lent_cell m.program c.steps so_far.held) so_far.held at.world root cells
  pub fails : let walk = walk_of m c at so_far.value (lent_cell m.program c.steps so_far.held) root cells
      in BackFails m walk n x ⊎ PointedLeft m walk n x

-- the instruction at the point is a chain, which ends in this fault
abbrev pub RaisedByChain : {S : Type 0} → Setup S → Problem → ProgramPoint S → Type 0
RaisedByChain m x at = (k : ℕ) × (n : ℕ) × (at.instruction ≡ op.Chain k)
    × ChainRow m (chain_of m.program k) at n x

-- this is a fault that the host answered, or in which a chain ended, maybe at another position since
abbrev pub FromHostOrChain : {S : Type 0} → Setup S → Problem → ProgramPoint S → Type 0
FromHostOrChain m x at = (y : Problem) × (p : Position) ×
    (HostAnswers m y at ⊎ RaisedByChain m y at) × (x ≡ at_position p y)

-- The walk of a chain comes to a native that asks for this call first, in this world.
pub record ChainAsks {S : Type 0} (m : Setup S) (c : Chain) (at : ProgramPoint S) (d : Callback)
    (v : World S) : Type 0 where
  pub so_far : ChainReads m c at
  pub root : Held
  pub cells : List Cell
  pub lends : RootLends (lent_cell m.program c.steps so_far.held) so_far.held at.world root cells
  pub asks :
      let walk = walk_of m c at so_far.value (lent_cell m.program c.steps so_far.held) root cells in
      WalkAsks m walk d v

-- The native that the instruction at the point asks the host for asks for this call first, in this world;
-- or one does that the instruction's chain calls.
pub data AsksFor {S : Type 0} (m : Setup S) (at : ProgramPoint S) :
    Callback → World S → Type 0 where
  by_question : (q : Question S) → AsksNative m q at → (n : Native) →
      native_asked m q ≡ Some n → IsCalled q n → (a : AsksFirst m q n at.frame at.world) →
      AsksFor m at (asked_by m a) (asked_in m a)
  by_chain : (k : ℕ) {d : Callback} {v : World S} → at.instruction ≡ op.Chain k →
      ChainAsks m (chain_of m.program k) at d v → AsksFor m at d v
