-- A chain whose walk is under way: how it began, where the code has its root, and how far the walk
-- has come.
use Rattle.std.specs.Prelude.{◌≡◌, ◌<◌, ◌≤◌, ◌∷◌, [], ℕ, List, Bool, false, Option, Some, None, Result, Ok, Err, length, slice_get, slice_set}
use Rattle.grain_value.specs.Cells.{idle}
use Rattle.grain_value.specs.Operands.{under}
use Rattle.grain_value.specs.Scopes.{set_held}
use Rattle.grain_value.specs.declared.memory.OutOfMemory.{OutOfMemory}
use Rattle.grain_value.specs.declared.scopes.Entry.{Entry}
use Rattle.grain_value.specs.declared.values.Held.{Held}
use Rattle.grain_program.specs.Chains.{chain_takes}
use Rattle.grain_program.specs.Effects.{takes_of}
use Rattle.grain_program.specs.View.{View, chain_of, position_of}
use Rattle.grain_global.specs.StepsView.{StepsView}
use Rattle.grain_program.specs.declared.code.functions.Function.{Function}
use Rattle.grain_program.specs.declared.code.instruction_set.Op.TheVariants as op
use Rattle.grain_fault.specs.declared.traces.Fault.{Fault}
use Rattle.grain_means.specs.Worlds.{Frame, Place, Setup}
use Rattle.grain_means.specs.Tasks.{Done}
use Rattle.grain_means.specs.Rules.{trees_in}
use Rattle.grain_means.specs.Rules.Chains.{assigned_operand, chain_over, lent_cell, steps_operands, walk_root}
use Rattle.grain_means.specs.Walks.{whole_walk}
use Rattle.grain_means.specs.Simulation.{Computation, LocalState, Simulates}
use Rattle.grain_means.specs.lemmas.Spreading.{Rooted}
use Rattle.grain_chain.specs.Walking.{Falls, Waits, is_out, left_to_do, lent, new_course, resumed, roots_at, steps_of, still, with_receiver}
use Rattle.grain_chain.specs.declared.requests.WalkAnswer.{WalkAnswer}
use Rattle.grain_chain.specs.declared.walks.Walk.{Walk}
use Rattle.grain_frame.specs.Abstraction as frames
use Rattle.grain_frame.specs.Abstraction.{ContinuesAt, ImplementsBound, KeepsFrame, Moment, abstraction, continuation, frame_in, moment, this_of}
use Rattle.grain_frame.specs.Receivers.{with_newest}
use Rattle.grain_frame.specs.declared.activations.Activation.{Activation}
use Rattle.grain_frame.specs.declared.runs.Progress.{Progress}
use Rattle.grain_frame.specs.declared.runs.Progress.TheVariants as progress
use Rattle.grain_frame.specs.declared.runs.Run.{Run}
use Rattle.grain_vm.specs.Chains.{CanPutBack, value_taken, walked_frame}
use Rattle.grain_vm.specs.Driving.{IsApart, after_walk, beside, end_is_out, end_of}
use Rattle.grain_vm.specs.Methods.{HasFunction, given_to}
use Rattle.grain_frame.specs.Natives.{IsAt}
use Rattle.grain_frame.specs.Waiting.{apart_of}
use Rattle.grain_vm.specs.Seats.{AtThis, Added, Rests, Seat, Seated, first_held, walk_asking, walk_calling, walk_seated}
use Rattle.grain_vm.specs.declared.chain_operands.Taken.{Taken}
use Rattle.grain_vm.specs.declared.chains.Begun.{Begun}
use Rattle.grain_vm.specs.declared.chains.Begun.TheVariants as begun
use Rattle.grain_vm.specs.declared.chains.Walking.{Walking}
use Rattle.grain_vm.specs.declared.driving.Driven.{Driven}
use Rattle.grain_vm.specs.declared.driving.Driven.TheVariants as driven
use Rattle.grain_vm.specs.declared.driving.WalkEnd.{WalkEnd}
use Rattle.grain_vm.specs.declared.roots.FoundRoot.{FoundRoot}
use Rattle.grain_vm.specs.declared.roots.Home.{Home}
use Rattle.grain_vm.specs.declared.roots.Home.TheVariants as home

-- ---- how far a walk is driven

-- whether memory ran out
abbrev pub driven_is_out : Driven → Bool
driven_is_out (driven.Over end) = end_is_out end
driven_is_out (driven.Calls c) = false
driven_is_out (driven.Asks named native) = false

-- the walk's first root has this flag
abbrev pub RootedTo : Bool → Walk → Driven → Type 0
RootedTo b w (driven.Over end) = w.trail.here.read_only ≡ b
RootedTo b w (driven.Calls c) = Rooted b (with_receiver w c.receiver)
RootedTo b w (driven.Asks named native) = Rooted b (with_receiver w (apart_of native.lent))

-- a walk that calls a function waits for its answer, and there are fewer requests than n after it
abbrev pub WaitsFor : View → Walk → Driven → ℕ → Type 0
WaitsFor p w (driven.Over end) n = Unit {0}
WaitsFor p w (driven.Calls c) n =
    HasFunction p c × Waits p w c.receiver × (still p w w.awaits < n)
WaitsFor p w (driven.Asks named native) n =
    IsApart native.lent × Waits p w (apart_of native.lent) × (still p w w.awaits < n)

-- What is left of a walk that was driven so far: nothing but its end; or the call of a function and what
-- follows from the call's answer; or a native, which asks for a call first, and what follows from its
-- answer. `missed` is what is now the trace of a property that was missed.
abbrev pub DrivesTo : {H : Type 0} → Setup H → LocalState H → Computation H → ℕ →
    (Option Place → Frame) → Seat → Rests H → Option (List Fault) → Walk → Driven → LocalState H →
    Type 0
DrivesTo m old start k f seat done missed w (driven.Over end) new =
    Simulates m old start (end_is_out end) new
    (walk_seated k f seat done missed (Done (end_of end)) (w.trail.here ∷ []))
DrivesTo m old start k f seat done missed w (driven.Asks named native) new =
    (g : Option Place → Frame) × IsAt m g native.pos
    × Simulates m old start false new
    (walk_asking k f seat done native.asked g (lent w (apart_of native.lent)) (apart_of native.lent)
    named missed (resumed m.engine m.program w w.awaits) (with_receiver w (apart_of native.lent)))
DrivesTo m old start k f seat done missed w (driven.Calls c) new =
    (g : Function) → slice_get m.program.functions c.number ≡ Some g →
    Simulates m old start false new
    (walk_calling k f seat done g c.pos (given_to c.arguments) (lent w c.receiver)
    (resumed m.engine m.program w w.awaits) (with_receiver w c.receiver))

-- ---- where a root is while its walk is under way

-- what follows a walk whose root was taken from this home and had this flag there, in a frame without the
-- chain's operands
abbrev pub after_chain : {H : Type 0} → ℕ → ℕ → Home → Bool → (Option Place → Frame) → Rests H
after_chain k next (home.Entry i) b g =
    after_walk k next g (λ h w. record w { scope = set_held w.scope i h })
after_chain k next (home.Cell j) b g =
    after_walk k next g (λ h w. record w {
      cells = slice_set w.cells j (idle (record { value = h.value; read_only = b }));
    })
after_chain k next home.Operand b g = after_walk k next g (λ h w. w)
after_chain k next home.This b g = λ m place n o w. chain_over m k next (g place) o w

-- A root was taken from this home, where it had this flag; in the meaning the walk has this seat, the
-- scope is this one, and this is what the frame's `this` held.
abbrev pub IsAway : {H : Type 0} → Home → Bool → Seat → List Entry → Option Held → Run H → Type 0
IsAway (home.Entry i) b seat scope this s =
    (h : Held) × (seat ≡ Added h) × (h.read_only ≡ b)
    × ((x : Held) → set_held scope i x ≡ set_held s.scope i x) × (this ≡ this_of s)
IsAway (home.Cell j) b seat scope this s =
    (h : Held) × (seat ≡ Added h) × (scope ≡ s.scope) × (this ≡ this_of s)
IsAway home.Operand b seat scope this s =
    (h : Held) × (seat ≡ Added h) × (scope ≡ s.scope) × (this ≡ this_of s)
IsAway home.This b seat scope this s =
    (h : Held) × (seat ≡ AtThis h) × (h.read_only ≡ b) × (scope ≡ s.scope) × (this ≡ Some h)

-- each `this` of the run is as it was, but for the frame's own, if the root is taken from there
abbrev pub BoundAway : {H : Type 0} → Home → Run H → Run H → Type 0
BoundAway (home.Entry i) s s' = s'.receivers ≡ s.receivers
BoundAway (home.Cell j) s s' = s'.receivers ≡ s.receivers
BoundAway home.Operand s s' = s'.receivers ≡ s.receivers
BoundAway home.This s s' =
    (x : Held) × (s'.receivers ≡ with_newest x s.receivers)

-- the frame in which a chain ends, from which the chain's operands are gone
abbrev pub over_frame : {H : Type 0} → Activation → Run H → Option ℕ → Option Place → Frame
over_frame f s blamed place = record (frame_in f s place) { slot = blamed }

-- The walk of the chain of index k is under way in a frame that stood in the run s and blamed the step
-- of this slot, if any. The run is now s': the chain's operands are gone, the root is away from where it
-- is held, and all else that belongs to the frame is as it was.
pub record UnderWay {H : Type 0} (p : View) (s : Run H) (k next : ℕ) (blamed : Option ℕ)
    (w : Walking) (s' : Run H) : Type 0 where
  pub seat : Seat
  pub scope : List Entry
  pub this : Option Held
  pub index : w.index ≡ k
  pub goes_on : w.next ≡ next
  pub blames : w.blamed ≡ blamed
  pub away : IsAway w.home w.was_read_only seat scope this s'
  pub seated : Seated seat this
  pub back : CanPutBack s' w.home
  pub bound : BoundAway w.home s s'
  pub long : length s'.scope ≡ length s.scope
  pub operands : s'.stacks.operands ≡ under (chain_takes (chain_of p k)) s.stacks.operands
  pub cursors : s'.stacks.cursors ≡ s.stacks.cursors
  pub totals : s'.stacks.totals ≡ s.stacks.totals
  pub handlers : s'.stacks.handlers ≡ s.stacks.handlers
  pub room : s'.stacks.room ≡ s.stacks.room
  pub noted : s'.stacks.noted ≡ s.stacks.noted
  pub outer : s'.stacks.outer ≡ s.stacks.outer
  pub saved : s'.saved ≡ s.saved
  pub level : s'.level ≡ s.level
  pub later : s.count ≤ s'.count

-- what is left of the chain c of index k, whose root was taken from this home, if its walk stands at
-- this answer
abbrev pub chain_left : {H : Type 0} → Setup H → (Option Place → Frame) → ℕ → ℕ → Home → Bool →
    Seat → Option (List Fault) → Walk → WalkAnswer → Computation H
chain_left m g k next home b seat missed w a =
    walk_seated k g seat (after_chain k next home b g) missed (left_to_do m.engine m.program w a)
    (roots_at w a)

-- A chain's root was taken, and its walk has come to an answer.
pub record Starts {H : Type 0} (m : Setup H) (f : Activation) (s : Run H) (n : StepsView) (host : H)
    (root : FoundRoot) (h : Held) (taken : Taken) (k next : ℕ) (blamed : Option ℕ) (w : Walk)
    (a : WalkAnswer) (flag : Bool) (s' : Run H) (n' : StepsView) : Type 0 where
  pub seat : Seat
  pub scope : List Entry
  pub this : Option Held
  pub away : IsAway root.home flag seat scope this s'
  pub seated : Seated seat this
  pub back : CanPutBack s' root.home
  pub bound : BoundAway root.home s s'
  pub same : Simulates m (abstraction s n host)
      (λ m place v. walk_root m (lent_cell m.program (chain_of m.program k).steps h) h k
      (chain_of m.program k)
      (whole_walk (new_course m.engine m.program (position_of m.program f.address) k
      (trees_in (steps_operands (chain_of m.program k) s.stacks.operands))
      (value_taken (chain_of m.program k).tail taken.kept
      (assigned_operand (chain_of m.program k) s.stacks.operands))) (steps_of m.program k))
      next (frame_in f s place) (walked_frame f s (chain_of m.program k) blamed place) v)
      (is_out a) (beside scope this s' n' host)
      (chain_left m (walked_frame f s (chain_of m.program k) blamed) k next root.home flag seat None w a)
  pub rooted : Rooted (first_held seat).read_only (roots_at w a)
  pub long : length s'.scope ≡ length s.scope
  pub others : s' ≡ record s {
    stacks = record s.stacks {
      operands = under (chain_takes (chain_of m.program k)) s.stacks.operands;
    };
    scope = s'.scope;
    cells = s'.cells;
    receivers = s'.receivers;
  }

-- what a rule says of the chain of index k was done up to this answer of its walk
pub record Walks {H : Type 0} (m : Setup H) (a : Moment H) (rule : Computation H) (k next : ℕ)
    (blamed : Option ℕ) (w : Walking) (answer : WalkAnswer) (s' : Run H) (n' : StepsView) : Type 0
  where
    pub under_way : UnderWay m.program a.run k next blamed w s'
    pub same : Simulates m (abstraction a.run a.counts a.host) rule (is_out answer)
        (beside under_way.scope under_way.this s' n' a.host)
        (chain_left m (walked_frame a.frame a.run (chain_of m.program k) blamed) k next w.home
        w.was_read_only under_way.seat None w.walk answer)
    pub rooted : Rooted (first_held under_way.seat).read_only (roots_at w.walk answer)
    pub before : n'.before ≡ a.counts.before

-- what came of the beginning of a chain: it is over, with a fault, or its walk stands at an answer
abbrev pub Begins : {H : Type 0} → Setup H → Moment H → Computation H → ℕ → ℕ → Option ℕ →
    Result Begun OutOfMemory → Activation → Run H → StepsView → Type 0
Begins m a rule k next blamed (Ok begun.Refused) f' s' n' =
    ImplementsBound m a rule (next ∷ []) (takes_of m.program (op.Chain k)) 1 a.run.stacks.handlers
    (Ok progress.Failed) (moment f' s' n' a.host)
Begins m a rule k next blamed (Ok (begun.Walks w answer)) f' s' n' =
    Walks m a rule k next blamed w answer s' n'
Begins m a rule k next blamed (Err e) f' s' n' =
    ImplementsBound m a rule (next ∷ []) (takes_of m.program (op.Chain k)) 1 a.run.stacks.handlers
    (Err e) (moment f' s' n' a.host)

-- a walk that began can go on
abbrev pub BeginsWaiting : View → Result Begun OutOfMemory → Type 0
BeginsWaiting p (Ok begun.Refused) = Unit {0}
BeginsWaiting p (Ok (begun.Walks w answer)) = (n : ℕ) × Falls p w.walk answer n
BeginsWaiting p (Err e) = Unit {0}

-- What is left of a chain whose walk is over was done: its root is back, and its value is pushed or its
-- fault is raised.
pub record Finishes {H : Type 0} (m : Setup H) (f : Activation) (s : Run H) (n : StepsView) (host : H)
    (w : Walking) (end : WalkEnd) (r : Result Progress OutOfMemory) (f' : Activation) (s' : Run H)
    (n' : StepsView) : Type 0 where
  pub same : (seat : Seat) (scope : List Entry) (this : Option Held) (missed : Option (List Fault)) →
      IsAway w.home w.was_read_only seat scope this s → Seated seat this →
      Rooted (first_held seat).read_only (w.walk.trail.here ∷ []) →
      Simulates m (beside scope this s n host)
      (walk_seated w.index (over_frame f s w.blamed) seat
      (after_chain w.index w.next w.home w.was_read_only (over_frame f s w.blamed)) missed (Done (end_of end))
      (w.walk.trail.here ∷ [])) (frames.is_out r) (abstraction s' n' host)
      (continuation r s'.fault (frame_in f' s'))
  pub kept : KeepsFrame f s f' s'
  pub lands : ContinuesAt m.engine s f s' f' (w.next ∷ []) 0 1 s.stacks.handlers r
  pub before : n'.before ≡ n.before
