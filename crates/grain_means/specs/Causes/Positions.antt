-- Where a fault was raised or went on: the position that it has, also where it left a call or was
-- thrown anew.
use Rattle.std.specs.Prelude.{◌≡◌, ◌⊎◌, ◌+◌, ℕ, List, [], ◌∷◌, ◌++◌, Option, Some, None, true, false, length, if◌then◌else◌}
use Rattle.grain_value.specs.declared.values.Dynamic.{Dynamic}
use Rattle.grain_value.specs.declared.values.Held.{Held}
use Rattle.grain_value.specs.Cells.{flat}
use Rattle.grain_value.specs.Looking.{is_unit}
use Rattle.grain_value.specs.Operands.{top}
use Rattle.grain_fault.specs.Classes.{catchable}
use Rattle.grain_fault.specs.Positions.{at_position, at_position_if_none, position_of_problem}
use Rattle.grain_fault.specs.declared.places.Position.{Position}
use Rattle.grain_fault.specs.Problems.{Problem, InFunctionCall}
use Rattle.grain_program.specs.View.{View, chain_of, name_of, source_text}
use Rattle.grain_value.specs.declared.stores.Cell.{Cell}
use Rattle.grain_program.specs.declared.code.functions.Function.{Function}
use Rattle.grain_program.specs.declared.code.instruction_set.Op.{Op}
use Rattle.grain_program.specs.declared.code.instruction_set.Op.TheVariants as op
use Rattle.grain_means.specs.Worlds.{Act, Go, Failed, World, Setup, Handler, Frame, InFrame, Place}
use Rattle.grain_means.specs.Places.{look}
use Rattle.grain_means.specs.Rules.{throws_unit, frame_at, lent_cell, new_root, position}
use Rattle.grain_means.specs.Comes.{ProgramPoint, CatchPoint, Comes, ComesToCatch, Meets}
use Rattle.grain_means.specs.Ends.{Ends}
use Rattle.grain_means.specs.Causes.Instructions.{CallsOn, CallsUnder, Throws, receiver}
pub use Rattle.grain_means.specs.Causes.Callbacks.{body_begins}
use Rattle.grain_means.specs.Causes.Natives.{HostAnswers}
use Rattle.grain_means.specs.Causes.Spots.{InvocationEnds, Invokes, under_for, untraced}
use Rattle.grain_means.specs.Causes.Chains.{ChainReads, RaisedByChain, RootLends, begun_at, walk_of}

-- the `this` of a function that a walk calls on what stands at a place: it stands there, or is a copy of
-- what can only be read, after all roots
abbrev pub this_for : List Held → Option Place → Option Place
this_for roots None = None
this_for roots (Some p) =
    if (look roots p).read_only then Some (record { root = length roots; path = [] }) else Some p

-- the roots where a walk calls a function on what stands at a place, with the copy, if there is one
abbrev pub roots_for : List Held → Option Place → List Held
roots_for roots None = roots
roots_for roots (Some p) =
    if (look roots p).read_only then roots ++ look roots p ∷ [] else roots

-- the instruction at the point is a chain, whose walk comes to a call of this function on these
-- arguments, with this `this`, in this world, and this is the position of the call
pub record ChainCalls {S : Type 0} (m : Setup S) (g : Function) (args : List Held)
    (this : Option Place) (q : Position) (w : World S) (at : ProgramPoint S) : Type 0 where
  pub index : ℕ
  pub is : at.instruction ≡ op.Chain index
  pub so_far : ChainReads m (chain_of m.program index) at
  pub root : Held
  pub cells : List Cell
  pub lends : let c = chain_of m.program index in
      RootLends (lent_cell m.program c.steps so_far.held) so_far.held at.world root cells
  pub step : ℕ
  pub invokes : let c = chain_of m.program index in
      Invokes m (walk_of m c at so_far.value (lent_cell m.program c.steps so_far.held) root cells) step
  pub function : invokes.function ≡ g
  pub arguments : invokes.arguments ≡ args
  pub under : let c = chain_of m.program index in
      this ≡ this_for invokes.world.roots (under_for m
      (walk_of m c at so_far.value (lent_cell m.program c.steps so_far.held) root cells) invokes.call)
  pub position : q ≡ invokes.call.position
  pub starts : let c = chain_of m.program index in
      w ≡ record invokes.world {
        trace = [];
        roots = roots_for invokes.world.roots (under_for m
            (walk_of m c at so_far.value (lent_cell m.program c.steps so_far.held) root cells)
            invokes.call);
      }

-- The instruction at the point calls this function on these arguments under a receiver, with this `this`,
-- in this world: a mark is passed, and the receiver is a root.
abbrev pub ReceiverCalls : {S : Type 0} → Setup S → Function → List Held → Option Place → World S →
    ProgramPoint S → Type 0
ReceiverCalls m g args this w at = (n : ℕ)
    × CallsUnder m.program g args n at.instruction at.frame at.world
    × (let roots = at.world.roots ++ receiver n at.frame at.world ∷ [] in
    let place = Some (new_root at.world.roots) in
    (this ≡ this_for roots place) × (w ≡ record (begun_at at) {
      passed = at.world.passed + 1 + 1;
      roots = roots_for roots place;
    }))

-- the instruction at the point calls this function on these arguments in this world, with a receiver or
-- without one, or its chain does
abbrev pub CallsWith : {S : Type 0} → Setup S → Function → List Held → Option Place → Position →
    World S → ProgramPoint S → Type 0
CallsWith m g args this q w at = (CallsOn m.program g args at.instruction at.frame at.world
    × (this ≡ None) × (q ≡ position m at.frame) × (w ≡ begun_at at))
    ⊎ (ChainCalls m g args this q w at
    ⊎ (ReceiverCalls m g args this w at × (q ≡ position m at.frame)))

-- the instruction at the point calls this function, at this position; its run comes to where the
-- function's body begins, and of the run of the body this holds
pub record Enters {S : Type 0} (m : Setup S) (g : Function) (Runs : Act S → Type 0)
    (at : ProgramPoint S) : Type 0 where
  pub arguments : List Held
  pub this : Option Place
  pub position : Position
  pub start : World S
  pub calls : CallsWith m g arguments this position start at
  pub level : start.level ≡ at.world.level
  pub comes : Comes m (InFrame (frame_at g.chunk 0 this)) (body_begins m g arguments start)
      (Go (InFrame at.frame) at.world)
  pub runs : Runs (Go (InFrame (frame_at g.chunk 0 this)) (body_begins m g arguments start))

-- the run of an act comes to a call in a frame of this level, which has this position, and of the
-- run of the call's body this holds
pub record LeftCall {S : Type 0} (m : Setup S) (act : Act S) (level : ℕ) (Runs : Act S → Type 0)
    (p : Position) : Type 0 where
  pub call : ProgramPoint S
  pub met : Meets m call act
  pub own : call.world.level ≡ level
  pub function : Function
  pub enters : Enters m function Runs call
  pub position : p ≡ enters.position

-- the fault has this position, or none ever
abbrev pub HasPosition : Position → Problem → Type 0
HasPosition p x = at_position p x ≡ x

-- The host answered the fault to the instruction, and the fault has the position that the host gave it,
-- or the instruction's if the host gave none. Or a chain ends in the fault, whose row says its position:
-- that of a root, of an index, of a bracket, of a property or of a method, the instruction's, or one that
-- the host gave.
abbrev pub AnsweredSo : {S : Type 0} → Setup S → ProgramPoint S → Problem → Type 0
AnsweredSo m at x =
    ((y : Problem) × HostAnswers m y at × (x ≡ at_position_if_none (position m at.frame) y))
    ⊎ RaisedByChain m x at

-- this call by the chain, in the world in which the walk comes to it, ends with this fault
abbrev pub ChainCallFails : {S : Type 0} {m : Setup S} {g : Function} {args : List Held}
    {this : Option Place} {q : Position} {w : World S} {at : ProgramPoint S} →
    ChainCalls m g args this q w at → Problem → Type 0
ChainCallFails {S = S} {m = m} {at = at} k x =
    let c = chain_of m.program k.index in
    let cell = lent_cell m.program c.steps k.so_far.held in
    let i = k.invokes in
    (v : World S) × InvocationEnds m i.call
    (under_for m (walk_of m c at k.so_far.value cell k.root k.cells) i.call) (untraced i.world)
    (Failed x) v

-- what a call of this function, at this position, ends with where the body ended with this fault: it is
-- wrapped if a script may catch it, and else it goes on at the position
abbrev pub out_of_body : View → Position → Function → Problem → Problem
out_of_body p q g x =
    if catchable x then InFunctionCall (name_of p g.name) (source_text p) x q else at_position q x

-- The instruction is a chain, whose step of this number called a function. The function's body ended with
-- a fault, and so the call ended with this one.
pub record BodyFails {S : Type 0} (m : Setup S) (at : ProgramPoint S) (n : ℕ) (x : Problem) : Type 0
  where
    pub function : Function
    pub inner : Problem
    pub enters : Enters m function (λ body. (v : World S) × Ends m body (Failed inner) v) at
    pub calls : ChainCalls m function enters.arguments enters.this enters.position enters.start at
    pub step : calls.step ≡ n
    pub fails : ChainCallFails calls x
    pub is : x ≡ out_of_body m.program enters.position function inner

-- The instruction is a chain, and it called a function whose body ended with a fault. What left the call
-- is that fault, wrapped with the function's name, and it has the position of that very call.
abbrev pub LeftByChain : {S : Type 0} → Setup S → ProgramPoint S → Problem → Type 0
LeftByChain m at x = (n : ℕ) × (b : BodyFails m at n x)
    × (x ≡ InFunctionCall (name_of m.program b.function.name) (source_text m.program) b.inner
    b.enters.position)

-- the instruction is no chain
abbrev pub IsNoChain : Op → Type 0
IsNoChain (op.Chain k) = ⊥
IsNoChain o = Unit {0}

-- The fault was raised in a frame of this level. It has the position of the instruction that raised
-- it, if that is no chain; or that of a call by a chain, which it left; or the one that the host, or the
-- rule of a chain, gave it there.
abbrev pub TellsHere : {S : Type 0} → Setup S → ℕ → ProgramPoint S → Problem → Type 0
TellsHere m level at x = (at.world.level ≡ level)
    × ((IsNoChain at.instruction × HasPosition (position m at.frame) x)
    ⊎ (LeftByChain m at x ⊎ AnsweredSo m at x))

-- the last operand is unit, as it is read
abbrev pub ThrowsUnitAt : {S : Type 0} → Frame → World S → Type 0
ThrowsUnitAt f w =
    (v : Dynamic) × (flat w.cells (top f.operands).value ≡ Some v) × (is_unit v ≡ true)

-- the run of an act comes to a frame of this level in which unit is thrown, at this position: by the
-- instruction, or by the host
pub record ThrowsUnit {S : Type 0} (m : Setup S) (act : Act S) (level : ℕ) (p : Position) : Type 0
  where
    pub point : ProgramPoint S
    pub met : Meets m point act
    pub own : point.world.level ≡ level
    pub how : (Throws point.instruction ×
        ThrowsUnitAt point.frame point.world ×
        (p ≡ position m point.frame))
        ⊎ ((z : Problem) × (throws_unit z ≡ true) × AnsweredSo m point z ×
        (p ≡ position_of_problem z))

-- each of these handlers has caught a throw of unit
abbrev pub HaveCaughtUnit : List Handler → Type 0
HaveCaughtUnit [] = Unit {0}
HaveCaughtUnit (h ∷ hs) =
    ((y : Problem) × (h.caught ≡ Some y) × (throws_unit y ≡ true)) × HaveCaughtUnit hs

-- the innermost of these handlers, if there is one, has caught nothing yet
abbrev pub FirstIsArmed : List Handler → Type 0
FirstIsArmed [] = Unit {0}
FirstIsArmed (h ∷ hs) = h.caught ≡ None

-- In a frame of this level a handler caught a fault, then unit was thrown in its catch block, and
-- with the position of that throw this is the fault that was caught. Where unit is thrown, the frame
-- has the handler, which has caught that fault, and those inside of it have caught throws of unit.
-- No handler around it took the fault further: if it is a throw of unit too, the next one has caught
-- nothing.
pub record ThrownAnew {S : Type 0} (m : Setup S) (act : Act S) (level : ℕ) (x : Problem) : Type 0
  where
    pub caught : CatchPoint S
    pub comes : ComesToCatch m caught act
    pub own : caught.world.level ≡ level
    pub position : Position
    pub throw : ThrowsUnit m act level position
    pub inside : List Handler
    pub around : List Handler
    pub block : throw.point.frame.handlers
        ≡ inside ++ record caught.handler { caught = Some caught.fault } ∷ around
    pub left : HaveCaughtUnit inside
    pub ended : throws_unit caught.fault ≡ true → FirstIsArmed around
    pub is : x ≡ at_position position caught.fault

-- The fault was raised in a frame of this level, and has the position of the instruction, or the one
-- that the host or the rule of a chain gave it there; or, if no script may catch it, it has that of a
-- call there, through which it left; or it was caught in a frame of this level and thrown anew.
abbrev pub Tells : {S : Type 0} → Setup S → Act S → ℕ → ProgramPoint S → Problem → Type 0
Tells m act level at x = TellsHere m level at x
    ⊎ (((catchable x ≡ false)
    × ((p : Position) × LeftCall m act level (Meets m at) p × HasPosition p x))
    ⊎ ((at.world.level ≡ level) × ThrownAnew m act level x))
