-- How the walk of a chain is driven: what it needs is asked of the host.
pub use Rattle.grain_frame.specs.Waiting.{beside}
use Rattle.std.specs.Prelude.{◌≡◌, ◌⊎◌, ◌+◌, ℕ, suc, List, [], Option, Some, None, Bool, true, false, Result, Ok, Err, map, option_map, take}
use Rattle.grain_value.specs.Tree.{Tree}
use Rattle.grain_value.specs.View.{value_of}
use Rattle.grain_value.specs.Operands.{read_write}
use Rattle.grain_value.specs.declared.values.Dynamic.{Dynamic}
use Rattle.grain_value.specs.declared.values.Held.{Held}
use Rattle.grain_value.specs.declared.scopes.Entry.{Entry}
use Rattle.grain_value.specs.declared.stores.Cell.{Cell}
use Rattle.grain_fault.specs.declared.places.Position.{Position}
use Rattle.grain_fault.specs.Positions.{at_position_if_none}
use Rattle.grain_fault.specs.Problems.{Problem, Plain, DataRace, NoMemory, problem_of}
use Rattle.grain_fault.specs.declared.faults.EvalAltResult.{EvalAltResult}
use Rattle.grain_host.specs.Law.{Law, receiver_after}
use Rattle.grain_host.specs.Law as reply
use Rattle.grain_means.specs.Worlds.{Answer, Frame, Place, Setup, World}
use Rattle.grain_means.specs.Places.{look}
use Rattle.grain_means.specs.Tasks.{Task, Walked, WalkEnded, WalkFailed}
use Rattle.grain_means.specs.Rules.Homes.{Home}
use Rattle.grain_means.specs.Rules.Natives.{Receiver}
use Rattle.grain_means.specs.Rules.Chains.{chain_over}
use Rattle.grain_means.specs.Driving.{all_given}
use Rattle.grain_means.specs.Rules.{flat_all, kinds_in, race_text, trees_in, first_is_read_only}
use Rattle.grain_means.specs.Simulation.{Binds, Computation, LocalState, Simulates, puts}
use Rattle.grain_means.specs.lemmas.Spreading.{Rooted}
use Rattle.grain_global.specs.StepsView.{StepsView}
use Rattle.grain_chain.specs.Walking.{call_for, is_want, no_memory, outcome_of, still, task_for}
use Rattle.grain_chain.specs.declared.requests.Request.{Request}
use Rattle.grain_chain.specs.declared.requests.What.{What}
use Rattle.grain_chain.specs.declared.requests.What.TheVariants as what
use Rattle.grain_chain.specs.declared.requests.WalkAnswer.{WalkAnswer}
use Rattle.grain_chain.specs.declared.requests.WalkAnswer.TheVariants as answer
use Rattle.grain_chain.specs.declared.walks.Walk.{Walk}
use Rattle.grain_program.specs.View.{View}
use Rattle.grain_frame.specs.Natives.{Seeks}
use Rattle.grain_frame.specs.declared.native_calls.Arguments.{Arguments}
use Rattle.grain_frame.specs.declared.native_calls.Sought.TheVariants as sought
use Rattle.grain_frame.specs.Natives.{IsAt}
use Rattle.grain_frame.specs.Waiting.{apart_of, lent_of}
use Rattle.grain_frame.specs.declared.waiting.Loan.{Loan}
use Rattle.grain_frame.specs.declared.waiting.Loan.TheVariants as have
use Rattle.grain_fault.specs.declared.traces.Fault.{Fault}
use Rattle.grain_means.specs.Rules.InWorld.{missed_by, trace_of}
use Rattle.grain_vm.specs.Seats.{Rests, Seat, Seated, first_held, kept_by, walk_asking, walk_needing, walk_seated}
use Rattle.grain_vm.specs.declared.driving.Answered.{Answered}
use Rattle.grain_vm.specs.declared.driving.Answered.TheVariants as answered
use Rattle.grain_vm.specs.declared.driving.WalkEnd.{WalkEnd}
use Rattle.grain_vm.specs.declared.driving.WalkEnd.TheVariants as walk_end
use Rattle.grain_frame.specs.declared.runs.Run.{Run}

-- the description that a host is given of a receiver, if there is one, and the arguments after it
pub record DescribesAfter (x : Option Held) (a : Arguments) (args : List Held) : Type 0 where
  pub kinds : a.kinds ≡ kinds_in (all_given x args)
  pub values : a.values ≡ trees_in args
  pub read_only : a.read_only ≡ first_is_read_only (all_given x args)

-- the description has each of these values as it is read; or there is none, because one of
-- them is a lent cell
abbrev pub ReadsAll : List Cell → Option Held → List Tree → Option Arguments → Type 0
ReadsAll cells x ts None = flat_all cells (map read_write (map value_of ts)) ≡ None
ReadsAll cells x ts (Some a) = (args : List Held)
    × (flat_all cells (map read_write (map value_of ts)) ≡ Some args) × DescribesAfter x a args

-- the receiver, if there is one, with where it is held
abbrev pub lent_from : Home → Option Held → Option Receiver
lent_from home x = option_map (λ h. record { home = home; held = h }) x

-- a fault is raised at a mark, or memory is out before it
abbrev pub RaisesOne : Problem → EvalAltResult → StepsView → StepsView → Type 0
RaisesOne x e n n' =
    ((problem_of e ≡ NoMemory) × (n' ≡ n))
    ⊎ ((problem_of e ≡ x) × (n' ≡ record n { passed = n.passed + 1 }))

-- The host was called with a key, a receiver, if there is one, and values. Two marks are passed, and
-- one more if its fault is raised. If memory is out, nothing has changed.
abbrev pub HearsEnd : {H : Type 0} → Law H → H → ℕ → Option Held → List Tree → Position →
    StepsView → Result Dynamic EvalAltResult → StepsView → H → Option Held → Type 0
HearsEnd law host key x values p n (Ok v) n' host' left =
    (reply.Done v ≡ law.call_reply host key x values)
    × (host' ≡ law.call_after host key x values)
    × (left ≡ receiver_after law host key x values)
    × (n' ≡ record n { passed = n.passed + 1 + 1 })
HearsEnd law host key x values p n (Err e) n' host' left =
    ((problem_of e ≡ NoMemory) × (host' ≡ host) × (left ≡ x) × (n' ≡ n))
    ⊎ ((y : Problem) × (reply.Failed y ≡ law.call_reply host key x values)
    × (problem_of e ≡ at_position_if_none p y)
    × (host' ≡ law.call_after host key x values)
    × (left ≡ receiver_after law host key x values)
    × (n' ≡ record n { passed = n.passed + 1 + 1 + 1 }))

-- The same of a native that may ask for a call first: then two marks are passed, and what it was lent stands
-- nowhere in the run.
abbrev pub HearsHost : {H : Type 0} → Law H → H → ℕ → Option Held → List Tree → Position →
    StepsView → Answered → StepsView → H → Type 0
HearsHost law host key x values p n (answered.Over o) n' host' =
    HearsEnd law host key x values p n o.0 n' host' o.1
HearsHost law host key x values p n (answered.Asks native) n' host' =
    (reply.Ask native.asked.token native.asked.pointer native.asked.values
    ≡ law.call_reply host key x values)
    × (host' ≡ law.call_after host key x values)
    × (native.lent ≡ lent_of (receiver_after law host key x values)) × (native.pos ≡ p)
    × (n' ≡ record n { passed = n.passed + 1 + 1 })

-- a request is for a native that is called by its name
abbrev pub is_named : What → Bool
is_named (what.Native name) = true
is_named (what.Compiled n) = false
is_named (what.Pointer f) = false

-- the native is over, and so
abbrev pub IfOver : Answered → (Result Dynamic EvalAltResult → Option Held → Type 0) → Type 0
IfOver (answered.Over o) P = P o.0 o.1
IfOver (answered.Asks native) P = ⊥

-- memory is out, and nothing has changed
abbrev pub WantsMemory : {H : Type 0} → H → Option Held → StepsView → Result Dynamic EvalAltResult →
    StepsView → H → Option Held → Type 0
WantsMemory host x n (Ok v) n' host' left = ⊥
WantsMemory host x n (Err e) n' host' left =
    (problem_of e ≡ NoMemory) × (host' ≡ host) × (left ≡ x) × (n' ≡ n)

-- the host has no native that may be called: that is a fault at a mark
abbrev pub RefusesCall : {H : Type 0} → Law H → H → List ℕ → Home → Option Held → List Held →
    Position → StepsView → Result Dynamic EvalAltResult → StepsView → H → Option Held → Type 0
RefusesCall law host name home x args p n (Ok v) n' host' left = ⊥
RefusesCall law host name home x args p n (Err e) n' host' left =
    Seeks law host name (lent_from home x) args p (sought.Fault e)
    × (host' ≡ host) × (left ≡ x) × (n' ≡ record n { passed = n.passed + 1 })

-- The host was asked for its native of a name, for a receiver, if there is one, and arguments as they are
-- read: memory is out, or there is none that may be called, or it was called.
abbrev pub AsksHost : {H : Type 0} → Law H → H → List ℕ → Home → Option Held → List Held →
    Position → StepsView → Answered → StepsView → H → Type 0
AsksHost law host name home x args p n r n' host' =
    IfOver r (λ o left. WantsMemory host x n o n' host' left)
    ⊎ IfOver r (λ o left. RefusesCall law host name home x args p n o n' host' left)
    ⊎ ((key : ℕ) × (values : List Tree)
    × Seeks law host name (lent_from home x) args p (sought.Native key values)
    × HearsHost law host key x values p n r n' host')

-- an argument is a cell whose content is lent: that is a fault
abbrev pub MeetsRace : {H : Type 0} → H → Option Held → Position → StepsView →
    Result Dynamic EvalAltResult → StepsView → H → Option Held → Type 0
MeetsRace host x p n (Ok v) n' host' left = ⊥
MeetsRace host x p n (Err e) n' host' left =
    RaisesOne (Plain (DataRace (race_text [])) p) e n n' × (host' ≡ host) × (left ≡ x)

-- the receiver is back, if one was lent, with the flag that it had
abbrev pub SameFlag : Option Held → Option Held → Type 0
SameFlag None None = Unit {0}
SameFlag None (Some h) = ⊥
SameFlag (Some h) None = ⊥
SameFlag (Some h) (Some g) = g.read_only ≡ h.read_only

-- a request is for a native, by its name
abbrev pub IsNative : What → Type 0
IsNative (what.Native name) = Unit {0}
IsNative (what.Compiled n) = ⊥
IsNative (what.Pointer f) = ⊥

abbrev pub name_in : What → List ℕ
name_in (what.Native name) = name
name_in (what.Compiled n) = []
name_in (what.Pointer f) = []

-- the request for a native was done: memory is out, or an argument cannot be read, or the host was asked
abbrev pub DoesRequest : {H : Type 0} → Law H → Request → Home → List Cell → StepsView → H →
    Answered → StepsView → H → Type 0
DoesRequest law r home cells n host a n' host' =
    IfOver a (λ o left. WantsMemory host r.receiver n o n' host' left)
    ⊎ ((flat_all cells (map read_write (map value_of r.arguments)) ≡ None)
    × IfOver a (λ o left. MeetsRace host r.receiver r.pos n o n' host' left))
    ⊎ ((args : List Held) × (flat_all cells (map read_write (map value_of r.arguments)) ≡ Some args)
    × AsksHost law host (name_in r.what) home r.receiver args r.pos n a n' host')

-- what a native was lent stands nowhere in the run, or it was lent nothing
abbrev pub IsApart : Loan → Type 0
IsApart have.Nothing = Unit {0}
IsApart (have.Target t) = ⊥
IsApart (have.Cell n h) = ⊥
IsApart (have.Apart h) = Unit {0}

-- the same of a native that was called so far
abbrev pub IsApartIn : Answered → Type 0
IsApartIn (answered.Over o) = Unit {0}
IsApartIn (answered.Asks native) = IsApart native.lent

-- what is left of what was lent to a native, whether it is over or asks for a call
abbrev pub left_by : Answered → Option Held
left_by (answered.Over o) = o.1
left_by (answered.Asks native) = apart_of native.lent

abbrev pub answered_is_out : Answered → Bool
answered_is_out (answered.Over o) = is_want o.0
answered_is_out (answered.Asks native) = false

-- what follows once a native of a walk was called, by its name or as a pointer names it
abbrev pub AnsweredTo : {H : Type 0} → Setup H → LocalState H → Computation H → ℕ →
    (Option Place → Frame) → Seat → Rests H → Bool → Option (List Fault) → Option Place →
    (Answer → Task) → List Held → Answered → LocalState H → Type 0
AnsweredTo m old start k f seat done named missed q go rs (answered.Over o) new =
    Simulates m old start (is_want o.0)
    (record new { trace = trace_of (kept_by named missed) (outcome_of o.0) [] })
    (walk_seated k f seat done (kept_by named (missed_by (outcome_of o.0) [])) (go (outcome_of o.0))
    (puts rs q o.1))
AnsweredTo m old start k f seat done named missed q go rs (answered.Asks native) new =
    (g : Option Place → Frame) × IsAt m g native.pos
    × Simulates m old start false (record new { trace = [] })
    (walk_asking k f seat done native.asked g q (apart_of native.lent) named missed go
    (puts rs q (apart_of native.lent)))

-- what a walk of the chain of this index has left to do, wherever it stands
abbrev pub Starting : Type 0 → Type 0
Starting H = ℕ → (Option Place → Frame) → Seat → Rests H → Option (List Fault) → Option Place →
    (Answer → Task) → List Held → Computation H

-- A call of a native that a walk needs was done, with this outcome, and this is what is left of what was lent
-- to it; or the native asks for a call first. So it is in each walk that has this left to do, wherever the
-- walk stands.
abbrev pub Answers : {H : Type 0} → Setup H → Bool → Starting H → Option Held → Run H → StepsView → H →
    Answered → Run H → StepsView → H → Type 0
Answers {H = H} m named start lent s n host r s' n' host' =
    (k : ℕ) (f : Option Place → Frame) (seat : Seat) (done : Rests H) (missed : Option (List Fault))
    (q : Option Place) (go : Answer → Task) (rs : List Held) (scope : List Entry)
    (this : Option Held) → Seated seat this → Rooted (first_held seat).read_only rs →
    Binds rs q lent →
    AnsweredTo m (beside scope this s n host) (start k f seat done missed q go rs) k f seat done named
    missed q go rs r (beside scope this s' n' host')

-- a walk calls the native of this name that a request asks for
abbrev pub needing : {H : Type 0} → Bool → List ℕ → Request → Starting H
needing named name r k f seat done missed q go rs =
    walk_needing k f seat done named missed (call_for name r q) go rs

-- a walk has the task of a request
abbrev pub having : {H : Type 0} → What → Request → Starting H
having x r k f seat done missed q go rs = walk_seated k f seat done missed (task_for x r q go) rs

-- what is done after a walk does not depend on whether something changed
abbrev pub IgnoresChange : {H : Type 0} → Rests H → Type 0
IgnoresChange {H = H} done =
    (m : Setup H) (place : Option Place) (n : ℕ) (v : Dynamic) (b : Bool) (w : World H) →
    done m place n (WalkEnded v b) w ≡ done m place n (WalkEnded v true) w

-- how a walk ended
abbrev pub end_of : WalkEnd → Walked
end_of (walk_end.Value v) = WalkEnded v true
end_of (walk_end.Fault x n) = WalkFailed n (problem_of x)

abbrev pub end_is_out : WalkEnd → Bool
end_is_out (walk_end.Value v) = false
end_is_out (walk_end.Fault x n) = no_memory (problem_of x)

-- what is done after the walk of the chain with index k ended, in a frame without the chain's operands:
-- its root is put back, and then its value is pushed or its fault is raised
abbrev pub after_walk : {H : Type 0} → ℕ → ℕ → (Option Place → Frame) →
    (Held → World H → World H) → Rests H
after_walk k next f back m place n o w =
    chain_over m k next (f place) o
    (back (look w.roots (record { root = n; path = [] })) (record w { roots = take n w.roots }))

-- how many requests there are still, at most
abbrev pub left_of : View → Walk → WalkAnswer → ℕ
left_of p w (answer.Need r) = suc (still p w w.awaits)
left_of p w (answer.Ended v changed) = 0
left_of p w (answer.Faulted x n) = 0
