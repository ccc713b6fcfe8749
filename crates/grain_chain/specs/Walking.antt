-- What a walk of the code is: its roots, its place, and what is left to do.
use Rattle.std.specs.Prelude.{◌≡◌, ℕ, suc, ◌+◌, ◌-◌, ◌*◌, ◌<◌, ◌≤◌, List, [], ◌∷◌, ◌++◌, Option, Some, None, Bool, true, false, Result, Ok, Err, length, map, drop, is_some, slice_get, slice_index_or}
use Rattle.grain_value.specs.Tree.{Tree, unit}
use Rattle.grain_value.specs.View.{tree, value_of}
use Rattle.grain_value.specs.Paths.{Leads}
use Rattle.grain_value.specs.declared.values.Dynamic.{Dynamic}
use Rattle.grain_value.specs.declared.values.Held.{Held}
use Rattle.grain_value.specs.declared.values.paths.PathStep.{PathStep}
use Rattle.grain_value.specs.declared.stores.Cell.{Cell}
use Rattle.grain_fault.specs.Problems.{problem_of}
use Rattle.grain_fault.specs.declared.places.Position.{Position}
use Rattle.grain_fault.specs.declared.faults.EvalAltResult.{EvalAltResult}
use Rattle.grain_program.specs.View.{View, chain_of, assign_op_of}
use Rattle.grain_program.specs.declared.code.functions.Function.{Function}
use Rattle.grain_program.specs.declared.code.parts.AssignOp.{AssignOp}
use Rattle.grain_program.specs.declared.code.chains.Step.{Step}
use Rattle.grain_program.specs.declared.code.chains.Tail.{Tail}
use Rattle.grain_program.specs.declared.code.chains.Tail.TheVariants as tail
use Rattle.grain_global.specs.declared.engines.Engine.{Engine}
pub use Rattle.grain_means.specs.Rules.Faults.{no_memory}
use Rattle.grain_means.specs.Places.{put}
use Rattle.grain_means.specs.Worlds.{Place, Answer, Came, Failed}
use Rattle.grain_means.specs.Tasks.{Task, Done, Need, Invoke, Call, Invocation, Method, Numbered, Pointed, WalkEnded, WalkFailed}
use Rattle.grain_means.specs.Walks.{Setting, Course, Role, Passes, Reads, Writes, Operates, Rest, Next, Origin, OfPart, OfIndex, OfProperty, OfMethod, OfNothing, back, into_answer, walked, operating, index_was_set, property_was_set, set_instead, property_was_got, got_instead, was_given, index_was_read, was_op_assigned, operator_answered, named}
use Rattle.grain_chain.specs.OwnWalks.{WalksOn, own}
use Rattle.grain_chain.specs.declared.origins.Origin.{Origin as CodeOrigin}
use Rattle.grain_chain.specs.declared.origins.Origin.TheVariants as origin
use Rattle.grain_chain.specs.declared.origins.OuterRoot.{OuterRoot}
use Rattle.grain_chain.specs.declared.origins.Ending.{Ending}
use Rattle.grain_chain.specs.declared.origins.Ending.TheVariants as ending
use Rattle.grain_chain.specs.declared.origins.Role.{Role as CodeRole}
use Rattle.grain_chain.specs.declared.origins.Role.TheVariants as role
use Rattle.grain_chain.specs.declared.origins.Onward.{Onward}
use Rattle.grain_chain.specs.declared.origins.Onward.TheVariants as onward
use Rattle.grain_chain.specs.declared.origins.AnswerUse.{AnswerUse}
use Rattle.grain_chain.specs.declared.origins.Awaited.{Awaited}
use Rattle.grain_chain.specs.declared.origins.Awaited.TheVariants as awaited
use Rattle.grain_chain.specs.declared.requests.Request.{Request}
use Rattle.grain_chain.specs.declared.requests.What.{What}
use Rattle.grain_chain.specs.declared.requests.What.TheVariants as what
use Rattle.grain_chain.specs.declared.requests.WalkAnswer.{WalkAnswer}
use Rattle.grain_chain.specs.declared.requests.WalkAnswer.TheVariants as answer
use Rattle.grain_chain.specs.declared.walks.Walk.{Walk}

-- where a root of the code's walk came from
abbrev pub origin_of : CodeOrigin → Origin
origin_of (origin.Part s) = OfPart s
origin_of (origin.Index i q) = OfIndex i q
origin_of (origin.Property name setter q assigned) = OfProperty name setter q assigned
origin_of origin.Method = OfMethod
origin_of origin.Nothing = OfNothing

-- the steps of the chain with this index
abbrev pub steps_of : View → ℕ → List Step
steps_of p k = (chain_of p k).steps

abbrev pub count_of : View → ℕ → ℕ
count_of p k = length (steps_of p k)

-- the op-assignment of a chain's tail, if it has one, is in its pool
abbrev pub HasOperator : View → Tail → Type 0
HasOperator p tail.Read = Unit {0}
HasOperator p (tail.Assign None) = Unit {0}
HasOperator p (tail.Assign (Some a)) = a < length p.assign_ops

-- what a chain with this tail does after its last step
abbrev pub ending_in : View → Tail → Ending
ending_in p tail.Read = ending.Read
ending_in p (tail.Assign None) = ending.Write
ending_in p (tail.Assign (Some a)) = ending.Operate (assign_op_of p a)

-- the value that it assigns, if any, and the op-assignment by which it does so, if any
abbrev pub assigned_by : Ending → Dynamic → Option Dynamic
assigned_by ending.Read v = None
assigned_by ending.Write v = Some v
assigned_by (ending.Operate a) v = Some v

abbrev pub operator_of : Ending → Option AssignOp
operator_of ending.Read = None
operator_of ending.Write = None
operator_of (ending.Operate a) = Some a

-- what a step does at the place to which it leads
abbrev pub role_in : CodeRole → Dynamic → Role
role_in role.Passes v = Passes
role_in role.Reads v = Reads
role_in role.Writes v = Writes v
role_in (role.Operates a) v = Operates v a

-- the engine, the program, and the position of the chain's instruction
abbrev pub setting_of : Engine → View → Position → Setting
setting_of e p q = record { engine = e; program = p; position = q }

-- the course of a walk that begins: its setting, its operands, and what it assigns
abbrev pub new_course : Engine → View → Position → ℕ → List Tree → Dynamic → Course
new_course e p q k operands v = record {
  setting = setting_of e p q;
  operands = operands;
  assigns = assigned_by (ending_in p ((chain_of p k).tail)) v;
  operator = operator_of (ending_in p ((chain_of p k).tail));
}

abbrev pub course_of : Engine → View → Walk → Course
course_of e p w = record {
  setting = setting_of e p w.pos;
  operands = w.operands;
  assigns = assigned_by w.ending w.value;
  operator = operator_of w.ending;
}

abbrev pub outer_root : OuterRoot → Held
outer_root o = o.root

abbrev pub roots : List OuterRoot → Held → List Held
roots os h = map outer_root os ++ h ∷ []

-- the roots of a walk, the one at which it began first
abbrev pub roots_of : Walk → List Held
roots_of w = roots w.trail.outer w.trail.here

-- the place at this path in the newest root
abbrev pub place_in : List OuterRoot → List PathStep → Place
place_in os path = record { root = length os; path = path }

abbrev pub place_of : Walk → Place
place_of w = place_in w.trail.outer w.trail.path

-- the call of a native of this name that a request asks for, with the place that is lent
abbrev pub call_for : List ℕ → Request → Option Place → Call
call_for name r q = record {
  step = r.step;
  position = r.pos;
  name = name;
  receiver = q;
  values = map value_of r.arguments;
}

-- the call of a function that a request asks for, with the place that is lent as its `this`
abbrev pub invocation_for : Method → Request → Option Place → Invocation
invocation_for f r q = record {
  step = r.step;
  position = r.pos;
  method = f;
  this = q;
  values = map value_of r.arguments;
}

-- what is left to do where a request asks for this call, and goes on so with what came of it
abbrev pub task_for : What → Request → Option Place → (Answer → Task) → Task
task_for (what.Native name) r q heard = Need (call_for name r q) heard
task_for (what.Compiled n) r q heard = Invoke (invocation_for (Numbered n) r q) heard
task_for (what.Pointer f) r q heard = Invoke (invocation_for (Pointed f) r q) heard

-- the place that is lent, if any: the walk's
abbrev pub lent : Walk → Option Held → Option Place
lent w None = None
lent w (Some h) = Some (place_of w)

module _ (g : Setting) where
  -- the way back over one more root
  abbrev pub back_over : ℕ → OuterRoot → Rest → Rest
  back_over i o done = back g o.step (origin_of o.origin) (record { root = i; path = o.path }) done

  -- the way back over all roots but the first
  abbrev pub way_back : ℕ → List OuterRoot → Rest → Rest
  way_back i [] done = done
  way_back i (o ∷ os) done = way_back (suc i) os (back_over i o done)

module _ (e : Engine) (p : View) where
  abbrev pub rest_of : Walk → Rest
  rest_of w = way_back (setting_of e p w.pos) 0 w.trail.outer Done

  -- the steps after the present one
  abbrev pub further : Walk → Next
  further w = walked (course_of e p w) (drop (w.step + 1) (steps_of p w.chain)) (w.step + 1)

  abbrev pub next_of : Walk → Onward → Next
  next_of w onward.Further = further w
  next_of w (onward.Operate q a) = operating (setting_of e p w.pos) w.step q a w.value

  -- the walk goes on with an answer, which is a new root or the chain's value
  abbrev pub gone_into : Walk → AnswerUse → Dynamic → Task
  gone_into w i =
      into_answer (setting_of e p w.pos) w.step i.pos i.own (origin_of i.origin) (next_of w i.go)
      (place_of w) (rest_of w)

  -- what is done with an answer
  abbrev pub resumed : Walk → Awaited → Answer → Task
  resumed w awaited.IndexSet = index_was_set w.step w.gives (rest_of w)
  resumed w (awaited.PropertySet name q assigned v) =
      property_was_set w.step (named (setting_of e p w.pos) name) q assigned (place_of w) v w.gives
      (rest_of w)
  resumed w (awaited.SetInstead x assigned) =
      set_instead w.step (problem_of x) assigned w.gives (rest_of w)
  resumed w (awaited.PropertyGot name q i) =
      property_was_got w.step (named (setting_of e p w.pos) name) q (place_of w) (rest_of w) (gone_into w i)
  resumed w (awaited.GotInstead x i) =
      got_instead w.step (problem_of x) (rest_of w) (gone_into w i)
  resumed w (awaited.IndexGot i) = was_given w.step (rest_of w) (gone_into w i)
  resumed w (awaited.IndexRead q i n) =
      index_was_read w.step q (place_of w) i w.value (rest_of w) (gone_into w n)
  resumed w (awaited.OpAssigned q a) =
      was_op_assigned (setting_of e p w.pos) w.step q a w.value (place_of w) (rest_of w)
  resumed w (awaited.Operator q) = operator_answered w.step q (place_of w) (rest_of w)
  resumed w (awaited.Called b i) = was_given w.step (rest_of w) (gone_into w i)

  -- what a walk that gave this answer has left to do
  abbrev pub left_to_do : Walk → WalkAnswer → Task
  left_to_do w (answer.Need r) = task_for r.what r (lent w r.receiver) (resumed w w.awaits)
  left_to_do w (answer.Ended v changed) = Done (WalkEnded v changed)
  left_to_do w (answer.Faulted x n) = Done (WalkFailed n (problem_of x))

-- the roots once a receiver is back in its place
abbrev pub with_receiver : Walk → Option Held → List Held
with_receiver w None = roots_of w
with_receiver w (Some h) = put (roots_of w) (place_of w) h.value

-- the roots of a walk that gave this answer: a receiver counts as back in its place, and a walk that is
-- over has one root
abbrev pub roots_at : Walk → WalkAnswer → List Held
roots_at w (answer.Need r) = with_receiver w r.receiver
roots_at w (answer.Ended v changed) = w.trail.here ∷ []
roots_at w (answer.Faulted x n) = w.trail.here ∷ []

-- whether the walk is over because memory ran out
abbrev pub is_out : WalkAnswer → Bool
is_out (answer.Need r) = false
is_out (answer.Ended v changed) = false
is_out (answer.Faulted x n) = no_memory (problem_of x)

-- whether a call gave the fault that memory ran out
abbrev pub is_want : Result Dynamic EvalAltResult → Bool
is_want (Ok v) = false
is_want (Err x) = no_memory (problem_of x)

abbrev pub outcome_of : Result Dynamic EvalAltResult → Answer
outcome_of (Ok v) = Came v
outcome_of (Err x) = Failed (problem_of x)

-- The walk has done by itself what the task says, up to this answer, and exactly the rest of the task is
-- left to do. This holds for any number of marks that were passed before it began.
abbrev pub Did : Engine → View → List Cell → List Held → ℕ → Task → Walk → WalkAnswer → Type 0
Did e p cells before passed task w a =
    (k : ℕ) → WalksOn cells (own before (k + passed)) task (is_out a)
    (own (roots_at w a) (k + w.marks)) (left_to_do e p w a)

-- whether the request for this lends the value at the walk's place
abbrev pub lends : Awaited → Bool
lends awaited.IndexSet = true
lends (awaited.PropertySet name q assigned v) = true
lends (awaited.SetInstead x assigned) = true
lends (awaited.PropertyGot name q i) = true
lends (awaited.GotInstead x i) = true
lends (awaited.IndexGot i) = true
lends (awaited.IndexRead q i n) = true
lends (awaited.OpAssigned q a) = true
lends (awaited.Operator q) = false
lends (awaited.Called b i) = b

-- the operand of this number, or unit if the chain has none
abbrev pub operand_of : Walk → ℕ → Dynamic
operand_of w i = value_of (slice_index_or w.operands i unit)

-- how many steps the chain of a walk has
abbrev pub count : View → Walk → ℕ
count p w = count_of p w.chain

-- a walk has as many operands as its chain takes for its steps
abbrev pub HasAllOperands : View → Walk → Type 0
HasAllOperands p w = (chain_of p w.chain).operands ≤ length w.operands

-- a walk's present step is one of its chain's, and its operands are there
abbrev pub AtStep : View → Walk → Type 0
AtStep p w = (w.step < count p w) × HasAllOperands p w

-- If the walk may go on with what it awaits, it stands at one of the chain's steps.
abbrev pub IsAtStep : View → Walk → Awaited → Type 0
IsAtStep p w awaited.IndexSet = Unit {0}
IsAtStep p w (awaited.PropertySet name q assigned v) = Unit {0}
IsAtStep p w (awaited.SetInstead x assigned) = Unit {0}
IsAtStep p w (awaited.PropertyGot name q i) = AtStep p w
IsAtStep p w (awaited.GotInstead x i) = AtStep p w
IsAtStep p w (awaited.IndexGot i) = AtStep p w
IsAtStep p w (awaited.IndexRead q i n) = AtStep p w
IsAtStep p w (awaited.OpAssigned q a) = Unit {0}
IsAtStep p w (awaited.Operator q) = Unit {0}
IsAtStep p w (awaited.Called b i) = AtStep p w

-- how many requests there are at most on the way back over all roots but the first
abbrev pub backs : Walk → ℕ
backs w = 2 * length w.trail.outer

-- how many requests there are at most from the present step on, the way back included
abbrev pub steps_left : View → Walk → ℕ
steps_left p w = 4 * (count p w - w.step) + backs w

-- how many requests there are at most after this one
abbrev pub still : View → Walk → Awaited → ℕ
still p w awaited.IndexSet = backs w
still p w (awaited.PropertySet name q assigned v) = backs w + 1
still p w (awaited.SetInstead x assigned) = backs w
still p w (awaited.PropertyGot name q i) = steps_left p w + 2
still p w (awaited.GotInstead x i) = steps_left p w + 1
still p w (awaited.IndexGot i) = steps_left p w + 1
still p w (awaited.IndexRead q i n) = steps_left p w + 2
still p w (awaited.OpAssigned q a) = backs w + 1
still p w (awaited.Operator q) = backs w
still p w (awaited.Called b i) = steps_left p w + 1

-- A walk that waits for an answer. A receiver comes back exactly if one was lent, and it has the
-- read-only flag of its root.
pub record Waits (p : View) (w : Walk) (receiver : Option Held) : Type 0 where
  pub leads : lends w.awaits ≡ true → Leads w.trail.path (tree w.trail.here.value)
  pub step : IsAtStep p w w.awaits
  pub lent : is_some receiver ≡ lends w.awaits
  pub flag : (h : Held) → receiver ≡ Some h → h.read_only ≡ w.trail.here.read_only

-- A function of the program that is to be called by its number is there, and it has as many parameters
-- as there are arguments.
abbrev pub CanCall : View → What → ℕ → Type 0
CanCall p (what.Native name) count = Unit {0}
CanCall p (what.Compiled number) count =
    (f : Function) × (slice_get p.functions number ≡ Some f) × (length f.params ≡ count)
CanCall p (what.Pointer f) count = Unit {0}

-- A walk that asks for a call waits for its answer, and after it asks for fewer than n calls; what it asks
-- for can be called with the arguments that it gives. A walk that is over asks for nothing.
abbrev pub Falls : View → Walk → WalkAnswer → ℕ → Type 0
Falls p w (answer.Need r) n =
    Waits p w r.receiver × (still p w w.awaits < n) × CanCall p r.what (length r.arguments)
Falls p w (answer.Ended v changed) n = Unit {0}
Falls p w (answer.Faulted x k) n = Unit {0}
