-- What the code did that changes the cursors of a frame.
use Rattle.std.specs.Prelude.{◌≡◌, ◌≤◌, ◌-◌, ℕ, ℤ, Bool, false, List, [], ◌∷◌, Option, Some, None, Result, Ok, Err, is_none, length, slice_get}
use Rattle.grain_value.specs.Cells.{content}
use Rattle.grain_value.specs.Tree.{Tree}
use Rattle.grain_value.specs.View.{tree}
use Rattle.grain_value.specs.declared.stores.Cell.{Cell}
use Rattle.grain_value.specs.declared.values.Dynamic.{Dynamic}
use Rattle.grain_value.specs.declared.memory.OutOfMemory.{OutOfMemory}
use Rattle.grain_program.specs.declared.code.instruction_set.Op.{Op}
use Rattle.grain_program.specs.Effects.{takes_of, effect_of}
use Rattle.grain_program.specs.Shapes.{after, Arrival, arrival, arrivals}
use Rattle.grain_program.specs.Typing.{In}
use Rattle.grain_program.specs.View.{View}
use Rattle.grain_global.specs.declared.engines.Engine.{Engine}
use Rattle.grain_stack.specs.Cursors.{items_left, first_cell}
use Rattle.grain_stack.specs.declared.cursors.Cursor.{Cursor}
use Rattle.grain_means.specs.Worlds.{Setup}
use Rattle.grain_means.specs.Rules.{instr}
use Rattle.grain_means.specs.Simulation.{Computation, SimulatesExactly}
use Rattle.grain_frame.specs.Abstraction.{KeepsFrame, Moment, Progresses, abstraction, continuation, frame_in, is_out, shape_in}
use Rattle.grain_frame.specs.declared.activations.Activation.{Activation}
use Rattle.grain_frame.specs.declared.runs.Progress.{Progress}
use Rattle.grain_frame.specs.declared.runs.Progress.TheVariants as progress
use Rattle.grain_frame.specs.declared.runs.Run.{Run}

-- where a frame stands, and its shape there
abbrev pub arrived : {H : Type 0} → Activation → Run H → Arrival
arrived f s = arrival f.address (shape_in s)

-- What was done changes the frame's cursors. If the frame goes on, it does where and as one of these
-- says, with its handlers, and an operation was taken or the address lies further on. After a fault
-- the frame has its cursors and its handlers, and no operand is gone but those that are taken.
abbrev pub ArrivesAt : {H : Type 0} → Engine → Run H → Activation → Run H → Activation →
    List Arrival → (takes : ℕ) → Result Progress OutOfMemory → Type 0
ArrivesAt engine s f s' f' goes takes (Ok progress.Continues) =
    In (arrived f' s') goes × (s'.stacks.handlers ≡ s.stacks.handlers)
    × Progresses engine s f s' f'
ArrivesAt engine s f s' f' goes takes (Ok progress.Returned) = Unit {0}
ArrivesAt engine s f s' f' goes takes (Ok progress.Failed) =
    (length s.stacks.operands - takes ≤ length s'.stacks.operands)
    × (s'.stacks.handlers ≡ s.stacks.handlers) × (s'.stacks.cursors ≡ s.stacks.cursors)
ArrivesAt engine s f s' f' goes takes (Err e) = Unit {0}

-- the code did what a rule says that changes the frame's cursors
pub record ImplementsLoop {H : Type 0} (m : Setup H) (a : Moment H) (rule : Computation H)
    (goes : List Arrival) (takes : ℕ) (result : Result Progress OutOfMemory) (b : Moment H) :
    Type 0 where
  pub same : SimulatesExactly m
      (abstraction a.run a.counts a.host) rule
      (is_out result) (abstraction b.run b.counts b.host)
      (continuation result b.run.fault (frame_in b.frame b.run))
  pub kept : KeepsFrame a.frame a.run b.frame b.run
  pub lands : ArrivesAt m.engine a.run a.frame b.run b.frame goes takes result
  pub before : b.counts.before ≡ a.counts.before

-- where and how an instruction of the program comes from such a frame, given the address after it
abbrev pub arrivals_of : {H : Type 0} → View → Op → ℕ → Run H → List Arrival
arrivals_of p o next s = arrivals p (effect_of p o) next (after (effect_of p o) (shape_in s))

-- the code did the instruction, which changes the cursors and keeps the handlers, and goes on where
-- and as its row says
abbrev pub PerformsLoop : {H : Type 0} → Setup H → Moment H → Op → ℕ →
    Result Progress OutOfMemory → Moment H → Type 0
PerformsLoop m a o next result b =
    ImplementsLoop m a (λ m place w. instr m o next (frame_in a.frame a.run place) w)
    (arrivals_of m.program o next a.run) (takes_of m.program o) result b

-- the items that the innermost cursor has left
abbrev pub first_items : List Cursor → List Tree
first_items [] = []
first_items (c ∷ cs) = items_left c.left

-- the cursors around the innermost one
abbrev pub outer_of : List Cursor → List Cursor
outer_of [] = []
outer_of (c ∷ cs) = cs

-- the first item is a cell that is there no more, or is lent
abbrev pub is_lent : List Cell → Option ℕ → Bool
is_lent cells None = false
is_lent cells (Some n) = is_none (content (slice_get cells n))

abbrev pub next_is_lent : {H : Type 0} → Run H → Bool
next_is_lent s = is_lent s.cells (first_cell (first_items s.stacks.cursors))

-- the innermost cursor has given this item, and has this count
abbrev pub Gave : List Cursor → List Cursor → Dynamic → ℤ → Type 0
Gave old [] item count = ⊥
Gave old (c ∷ cs) item count = (first_items old ≡ tree item ∷ items_left c.left)
    × (c.counter ≡ count) × (cs ≡ outer_of old)

-- nothing else has changed
abbrev pub TakesItem : {H : Type 0} → Run H → Run H → Dynamic → ℤ → Type 0
TakesItem s s' item count = Gave s.stacks.cursors s'.stacks.cursors item count
    × (s' ≡ record s { stacks = record s.stacks { cursors = s'.stacks.cursors } })

-- the count was written: only entries and cells may differ, and the fault that lies in the run
abbrev pub CountResult : {H : Type 0} → Run H → Run H → Type 0
CountResult s s' = (s' ≡ record s { scope = s'.scope; cells = s'.cells; fault = s'.fault })
    × (length s'.scope ≡ length s.scope)
