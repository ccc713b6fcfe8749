-- A native that is called on a receiver and asks for calls first: where the receiver is meanwhile.
use Rattle.std.specs.Prelude.{◌≡◌, ℕ, List, [], ◌∷◌, ◌++◌, Option, Some, None, false, length, take, slice_set}
use Rattle.grain_value.specs.Tree.{Tree}
use Rattle.grain_value.specs.Cells.{idle}
use Rattle.grain_value.specs.declared.scopes.Entry.{Entry}
use Rattle.grain_value.specs.declared.values.Held.{Held}
use Rattle.grain_fault.specs.Problems.{NoMemory}
use Rattle.grain_fault.specs.declared.places.Position.{Position}
use Rattle.grain_chain.specs.declared.requests.Request.{Request}
use Rattle.grain_global.specs.StepsView.{StepsView}
use Rattle.grain_means.specs.Worlds.{Act, Answer, AtPlace, Came, Failed, Frame, Go, InHost, Place, Setup, Then, World}
use Rattle.grain_means.specs.Places.{look}
use Rattle.grain_means.specs.Rules.{native_over, root_at, with_token}
use Rattle.grain_means.specs.Rules.Chains.{new_root}
use Rattle.grain_means.specs.Rules.InWorld.{failed_so}
use Rattle.grain_means.specs.Simulation.{Computation, Simulates}
use Rattle.grain_frame.specs.Natives.{IsAt}
use Rattle.grain_frame.specs.Waiting.{beside}
use Rattle.grain_frame.specs.declared.native_calls.Asked.{Asked}
use Rattle.grain_frame.specs.declared.runs.Run.{Run}
use Rattle.grain_frame.specs.declared.waiting.Loan.TheVariants as have
use Rattle.grain_vm.specs.Driving.{SameFlag, name_in}
use Rattle.grain_vm.specs.Methods.{given_to}
use Rattle.grain_vm.specs.Receivers.{CallOn, CallsOn, HearsRoot, NativeCalled, native_call}
use Rattle.grain_vm.specs.declared.natives.LentCell.{LentCell}
use Rattle.grain_vm.specs.declared.natives.OnReceiver.{OnReceiver}
use Rattle.grain_vm.specs.declared.natives.OnReceiver.TheVariants as on

-- the receiver after the native, which has this: that, or, if the native was lent what a cell holds, the cell
abbrev pub receiver_after : Option LentCell → Held → Held
receiver_after None g = g
receiver_after (Some c) g = c.receiver

-- the roots below what the native was lent: with the receiver, if that is a cell
abbrev pub roots_below : Option LentCell → List Held → List Held
roots_below None roots = roots
roots_below (Some c) roots = roots ++ c.receiver ∷ []

-- what the native was lent of a cell, which is the root of this number, goes back
abbrev pub heard_on : {S : Type 0} → Option LentCell → ℕ → (Answer → World S → Act S) → Answer →
    World S → Act S
heard_on None k heard a w = heard a w
heard_on (Some c) k heard a w =
    heard a (record w {
      cells = slice_set w.cells c.cell
          (idle (record { value = (look w.roots (root_at k)).value; read_only = c.read_only }));
      roots = take k w.roots;
    })

-- The native asks for this call first, in a frame, and has this of what it was lent, which is a root; and
-- then what follows from its answer.
abbrev pub on_asking : {S : Type 0} → Asked → (Option Place → Frame) → Held → Option LentCell →
    HearsRoot S → Computation S
on_asking asked f g back heard m place w =
    let roots = roots_below back w.roots in
    let on = heard_on back (length roots) (heard m place (length w.roots)) in
    Then (Go (InHost (record {
      receiver = Some (record { home = AtPlace (new_root roots); held = g });
      frame = f place;
      token = asked.token;
      pointer = asked.pointer;
      values = asked.values;
    })) (record w {
      roots = roots ++ g ∷ [];
      tokens = with_token asked.token w.tokens;
    })) (native_over (on (Failed NoMemory)) (λ v w1. on (Came v) w1) (failed_so m on))

-- a call on a receiver, which held this, came so far: its native asks for this call first
abbrev pub AsksOn : {H : Type 0} → Setup H → CallOn H → Held → (Option Place → Frame) → Run H →
    StepsView → H → Asked → Held → Option LentCell → Run H → StepsView → H → Type 0
AsksOn {H = H} m call h f s n host asked g back s' n' host' =
    (scope : List Entry) (this : Option Held) (heard : HearsRoot H) →
    Simulates m (beside scope this s n host)
    (λ m place w. call m place (heard m place (length w.roots)) (new_root w.roots)
    (record w { roots = w.roots ++ h ∷ [] }))
    false (beside scope this s' n' host') (on_asking asked f g back heard)

-- What came of a native that was called on a receiver, by a request: it is over, or it asks for a call
-- first. So it is in any frame at the request's position.
abbrev pub CallsNativeOn : {H : Type 0} → Setup H → Request → Run H → StepsView → H → OnReceiver →
    Run H → StepsView → H → Type 0
CallsNativeOn m r s n host (on.Over o) s' n' host' =
    SameFlag r.receiver o.1 × NativeCalled m r s n host o.0 o.1 s' n' host'
CallsNativeOn m r s n host (on.Asks native back) s' n' host' =
    (g : Held) × (native.lent ≡ have.Apart g) × (native.pos ≡ r.pos)
    × SameFlag r.receiver (Some (receiver_after back g))
    × ((h : Held) (f : Option Place → Frame) → r.receiver ≡ Some h → IsAt m f r.pos →
    AsksOn m (native_call f (name_in r.what) (given_to r.arguments)) h f s n host native.asked g back
    s' n' host')

-- the same of a receiver that is a cell, which holds this
abbrev pub CallsOnCell : {H : Type 0} → Setup H → List ℕ → Position → List Tree → Held → Run H →
    StepsView → H → OnReceiver → Run H → StepsView → H → Type 0
CallsOnCell m name q ts h s n host (on.Over o) s' n' host' =
    (o.1 ≡ Some h) × ((f : Option Place → Frame) → IsAt m f q →
    CallsOn m (native_call f name (given_to ts)) h s n host o.0 h s' n' host')
CallsOnCell m name q ts h s n host (on.Asks native back) s' n' host' =
    (g : Held) × (c : LentCell) × (native.lent ≡ have.Apart g) × (back ≡ Some c) × (c.receiver ≡ h)
    × (native.pos ≡ q) × ((f : Option Place → Frame) → IsAt m f q →
    AsksOn m (native_call f name (given_to ts)) h f s n host native.asked g back s' n' host')
