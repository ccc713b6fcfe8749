-- Where the methods of `Walk` lead. Some of them answer `OutOfMemory`: then the walk stands at its next
-- mark, and memory is out at this mark.
use Rattle.std.specs.Prelude.{◌≡◌, ℕ, suc, ◌+◌, ◌≤◌, List, [], ◌∷◌, ◌++◌, length, Option, Some, None, Bool, true, false, Result, Ok, Err}
use Rattle.grain_value.specs.Tree.{Tree}
use Rattle.grain_value.specs.declared.memory.OutOfMemory.{OutOfMemory}
use Rattle.grain_value.specs.declared.values.Held.{Held}
use Rattle.grain_fault.specs.Problems.{NoMemory, Plain, Arithmetic, DataTooLarge, problem_of}
use Rattle.grain_fault.specs.declared.faults.EvalAltResult.{EvalAltResult}
use Rattle.grain_fault.specs.declared.places.Position.{Position}
use Rattle.grain_fault.specs.declared.faults.EvalAltResult.TheVariants as fault
use Rattle.grain_means.specs.Worlds.{Place}
use Rattle.grain_program.specs.View.{View}
use Rattle.grain_program.specs.declared.code.chains.Step.{Step}
use Rattle.grain_means.specs.Tasks.{Task, WalkEnded, WalkFailed}
use Rattle.grain_means.specs.Walks.{Setting, Course, Rest, Next}
use Rattle.grain_chain.specs.OwnWalks.{WalksOn, own}
use Rattle.grain_chain.specs.Standings.{Stands, oldest, put_there}
use Rattle.grain_chain.specs.Walking.{roots_of, roots_at, left_to_do, rest_of, place_of, further, setting_of, course_of, steps_of, Falls, lends}
use Rattle.grain_chain.specs.declared.contexts.Context.{Context}
use Rattle.grain_value.specs.Looking.{is_unit, pointer_of}
use Rattle.grain_value.specs.declared.values.Dynamic.{Dynamic}
use Rattle.grain_value.specs.declared.values.FnPtr.{FnPtr}
use Rattle.grain_ops.specs.Outcomes.{Outcome, NotBuiltIn, Gave, ArithmeticFault, TooLarge}
use Rattle.grain_value.specs.declared.values.paths.PathStep.{PathStep}
use Rattle.grain_chain.specs.declared.origins.Origin.{Origin}
use Rattle.grain_chain.specs.declared.origins.OuterRoot.{OuterRoot}
use Rattle.grain_chain.specs.declared.origins.Awaited.{Awaited}
use Rattle.grain_chain.specs.declared.requests.Request.{Request}
use Rattle.grain_chain.specs.declared.requests.What.{What}
use Rattle.grain_chain.specs.declared.requests.What.TheVariants as what
use Rattle.grain_chain.specs.declared.requests.WalkAnswer.{WalkAnswer}
use Rattle.grain_chain.specs.declared.requests.WalkAnswer.TheVariants as answer
use Rattle.grain_chain.specs.declared.walks.Walk.{Walk}

-- A walk that went on, in the same root or in a new one: only its roots, its place and its count of
-- marks have changed.
pub record Went (w v : Walk) : Type 0 where
  pub same : v ≡ record w { trail = v.trail; marks = v.marks }
  pub grown : length v.trail.outer ≤ suc (length w.trail.outer)

-- A walk of which a root was set back: only its newest root, the place in it and its count of
-- marks have changed.
pub record CameBack (w v : Walk) : Type 0 where
  pub same : v ≡ record w { trail = v.trail; marks = v.marks }
  pub outer : v.trail.outer ≡ w.trail.outer

-- the walk with all roots left but the first
abbrev pub fallen : Walk → Walk
fallen w = record w {
  trail = record { outer = []; here = oldest w.trail.outer w.trail.here; path = [] };
}

-- the walk with a receiver back in its place, and its marks counted from 0
abbrev pub received : Walk → Option Held → Walk
received w None = record w { marks = 0 }
received w (Some h) = record w { trail = put_there w.trail h.value; marks = 0 }

module _ (x : Context) where
  abbrev pub setting : Walk → Setting
  setting w = setting_of x.engine.now x.program.now w.pos

  abbrev pub course : Walk → Course
  course w = course_of x.engine.now x.program.now w

  abbrev pub steps : Walk → List Step
  steps w = steps_of x.program.now w.chain

  -- the way back
  abbrev pub rest : Walk → Rest
  rest w = rest_of x.engine.now x.program.now w

  -- the steps after the present one
  abbrev pub next_step : Walk → Next
  next_step w = further x.engine.now x.program.now w

  -- what is left to do if memory is out at the next mark
  abbrev pub given_up : Walk → Task
  given_up w = rest w (WalkFailed w.step NoMemory)

  -- From the state `old` with this task, the walk by itself reaches the roots `new` and this count of
  -- marks, with `now` left to do.
  abbrev pub Reaches : Walk → Task → Bool → List Held → ℕ → Task → Type 0
  Reaches old task out new marks now =
      (k : ℕ) → WalksOn x.cells.now (own (roots_of old) (k + old.marks)) task out
      (own new (k + marks)) now

  -- From `old` with this task, the walk reaches its answer, or the mark at which memory is out.
  abbrev pub Goes : Walk → Task → Result WalkAnswer OutOfMemory → Walk → Type 0
  Goes old task (Ok a) new =
      Reaches old task false (roots_at new a) new.marks (left_to_do x.engine.now x.program.now new a)
  Goes old task (Err o) new = Reaches old task true (roots_of new) new.marks (given_up new)

  -- The same, or the walk gives no answer yet, and its way back goes on.
  abbrev pub GoesBack : Walk → Task → Bool → Result (Option WalkAnswer) OutOfMemory → Walk → Type 0
  GoesBack old task changed (Ok (Some a)) new =
      Reaches old task false (roots_at new a) new.marks (left_to_do x.engine.now x.program.now new a)
  GoesBack old task changed (Ok None) new =
      Reaches old task false (roots_of new) new.marks (rest new (WalkEnded old.gives changed))
      × CameBack old new
  GoesBack old task changed (Err o) new =
      Reaches old task true (roots_of new) new.marks (given_up new)

  -- The same, or the walk gives no answer yet, and goes on at the next step.
  abbrev pub Takes : Walk → Task → Result (Option WalkAnswer) OutOfMemory → Walk → Type 0
  Takes old task (Ok (Some a)) new =
      Reaches old task false (roots_at new a) new.marks (left_to_do x.engine.now x.program.now new a)
  Takes old task (Ok None) new =
      Reaches old task false (roots_of new) new.marks
      (next_step old (place_of new) (rest new))
      × Went old new
  Takes old task (Err o) new = Reaches old task true (roots_of new) new.marks (given_up new)

-- after its answer the walk asks for fewer than n calls, or it is over, or memory is out
abbrev pub Needs : View → Walk → Result WalkAnswer OutOfMemory → ℕ → Type 0
Needs p w (Ok a) n = Falls p w a n
Needs p w (Err o) n = Unit {0}

-- the same, if the walk gives an answer at all
abbrev pub NeedsOr : View → Walk → Result (Option WalkAnswer) OutOfMemory → ℕ → Type 0
NeedsOr p w (Ok (Some a)) n = Falls p w a n
NeedsOr p w (Ok None) n = Unit {0}
NeedsOr p w (Err o) n = Unit {0}

-- Whether the chain ends before a step, because the step asks whether the value there is unit, as it is
-- read. None if it asks that of a lent cell.
abbrev pub ends_before : Bool → Option Dynamic → Option Bool
ends_before false o = Some false
ends_before true None = None
ends_before true (Some v) = Some (is_unit v)

-- a value is a pointer, or it is given back
abbrev pub PointerOr : Dynamic → Result FnPtr Dynamic → Type 0
PointerOr v (Ok f) = pointer_of v ≡ Some f
PointerOr v (Err u) = (u ≡ v) × (pointer_of v ≡ None)

-- the answer with which a step stops the walk
abbrev pub stopped : Result WalkAnswer OutOfMemory → Result (Option WalkAnswer) OutOfMemory
stopped (Ok a) = Ok (Some a)
stopped (Err o) = Err o

-- what is lent with a request: the value at the walk's place, with its root's flag, or nothing
abbrev pub Lends : Walk → Bool → Option Held → Type 0
Lends w false None = Unit {0}
Lends w false (Some h) = ⊥
Lends w true None = ⊥
Lends w true (Some h) = Stands w.trail h.value × (h.read_only ≡ w.trail.here.read_only)

-- a request of the present step for this call
pub record IsRequest (w : Walk) (q : Position) (call : What) (lent : Bool) (args : List Tree)
    (r : Request) : Type 0 where
  pub step : r.step ≡ w.step
  pub pos : r.pos ≡ q
  pub what : r.what ≡ call
  pub arguments : r.arguments ≡ args
  pub receiver : Lends w lent r.receiver

-- the walk asks for this call, or memory is out
abbrev pub AskedFor : Walk → Position → What → List Tree → Awaited → Result WalkAnswer OutOfMemory →
    Walk → Type 0
AskedFor w q call args s (Ok (answer.Need r)) v =
    IsRequest w q call (lends s) args r × (v ≡ record w { awaits = s; marks = w.marks + 1 })
AskedFor w q call args s (Ok (answer.Ended u changed)) v = ⊥
AskedFor w q call args s (Ok (answer.Faulted x n)) v = ⊥
AskedFor w q call args s (Err o) v = v ≡ w

-- the walk asks for the native of this name, or memory is out
abbrev pub Asked : Walk → Position → List ℕ → List Tree → Awaited → Result WalkAnswer OutOfMemory →
    Walk → Type 0
Asked w q name args s r v = AskedFor w q (what.Native name) args s r v

-- the place that is lent, if any
abbrev pub lent_place : Walk → Bool → Option Place
lent_place w false = None
lent_place w true = Some (place_of w)

-- The answer of the walk. If memory is out, it is the fault `Memory`, and only the first root stays.
abbrev pub Settles : Result WalkAnswer OutOfMemory → Walk → WalkAnswer → Walk → Type 0
Settles (Ok a) w b v = (b ≡ a) × (v ≡ w)
Settles (Err o) w b v = (b ≡ answer.Faulted fault.Memory w.step) × (v ≡ fallen w)

-- a walk one step further down in the same root, a mark later
abbrev pub deep : Walk → PathStep → Walk
deep w s = record w {
  trail = record w.trail { path = w.trail.path ++ s ∷ [] };
  marks = w.marks + 1;
}

-- the newest root, put aside for a newer one
abbrev pub aside : Walk → Origin → OuterRoot
aside w o = record { root = w.trail.here; path = w.trail.path; step = w.step; origin = o }

-- a walk in a new root, a mark later
abbrev pub in_root : Walk → Origin → Held → Walk
in_root w o h = record w {
  trail = record { outer = w.trail.outer ++ aside w o ∷ []; here = h; path = [] };
  marks = w.marks + 1;
}

abbrev pub WentIn : Walk → Origin → Held → Walk → Type 0
WentIn w o h v = v ≡ in_root w o h

-- this value, with the flag of the newest root
abbrev pub with_value : Walk → Dynamic → Held
with_value w v = record w.trail.here { value = v }

-- the fault is that of an op-assignment with this outcome, at this position; or memory is out
abbrev pub FailsAt : Position → Result EvalAltResult OutOfMemory → Outcome → Type 0
FailsAt q (Ok y) NotBuiltIn = ⊥
FailsAt q (Ok y) (Gave v) = ⊥
FailsAt q (Ok y) (ArithmeticFault text) = problem_of y ≡ Plain (Arithmetic text) q
FailsAt q (Ok y) (TooLarge what) = problem_of y ≡ Plain (DataTooLarge what) q
FailsAt q (Err e) o = Unit {0}

-- A byte, a character or a bit was put back into the value at the walk's place, a mark later; or it does
-- not have the type that fits there, and nothing was done.
abbrev pub WrotePart : Walk → Option Dynamic → Bool → Walk → Type 0
WrotePart w (Some d) b v =
    (b ≡ true) × (v ≡ record w { trail = put_there w.trail d; marks = w.marks + 1 })
WrotePart w None b v = (b ≡ false) × (v ≡ w)
