-- A native that a walk calls and that asks for calls first.
use Rattle.std.specs.Prelude.{ℕ, List, Option, Bool, Result}
use Rattle.grain_value.specs.declared.scopes.Entry.{Entry}
use Rattle.grain_value.specs.declared.values.Dynamic.{Dynamic}
use Rattle.grain_value.specs.declared.values.Held.{Held}
use Rattle.grain_fault.specs.declared.faults.EvalAltResult.{EvalAltResult}
use Rattle.grain_fault.specs.declared.traces.Fault.{Fault}
use Rattle.grain_chain.specs.Walking.{is_want, outcome_of}
use Rattle.grain_global.specs.StepsView.{StepsView}
use Rattle.grain_means.specs.Worlds.{Answer, Frame, Place, Setup}
use Rattle.grain_means.specs.Tasks.{Task}
use Rattle.grain_means.specs.Simulation.{Binds, Simulates, puts}
use Rattle.grain_means.specs.lemmas.Spreading.{Rooted}
use Rattle.grain_frame.specs.Natives.{IsAt}
use Rattle.grain_frame.specs.Waiting.{apart_of, beside}
use Rattle.grain_frame.specs.declared.runs.Run.{Run}
use Rattle.grain_vm.specs.Asks.{IsMissed}
use Rattle.grain_vm.specs.Seats.{Rests, Seat, Seated, first_held, walk_asking, walk_seated}
use Rattle.grain_vm.specs.declared.driving.AskingNative.{AskingNative}

-- The calls that the native asked for were done, and it is over, with this outcome, and this is left of what
-- it was lent. So it is in each walk that called it, wherever the walk stands: the walk goes on with the
-- outcome.
abbrev pub NativeWalked : {H : Type 0} → Setup H → Bool → AskingNative → Run H → StepsView → H →
    Bool → Result Dynamic EvalAltResult → Option Held → Run H → StepsView → H → Bool → Type 0
NativeWalked {H = H} m named native s n host missed o left s' n' host' missed' =
    (k : ℕ) (f g : Option Place → Frame) (seat : Seat) (done : Rests H)
    (before : Option (List Fault)) (q : Option Place) (go : Answer → Task) (rs : List Held)
    (scope : List Entry) (this : Option Held) → IsAt m g native.pos → Seated seat this →
    Rooted (first_held seat).read_only rs → Binds rs q (apart_of native.lent) →
    IsMissed missed s.stacks.trace before → (now : Option (List Fault))
    × IsMissed missed' s'.stacks.trace now
    × Simulates m (beside scope this s n host)
    (walk_asking k f seat done native.asked g q (apart_of native.lent) named before go rs) (is_want o)
    (beside scope this s' n' host')
    (walk_seated k f seat done now (go (outcome_of o)) (puts rs q left))
