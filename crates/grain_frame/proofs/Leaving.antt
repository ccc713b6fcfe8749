-- A loop that has no item left is left by a transfer.
use Rattle.std.proofs.Common.{◌≡◌, ◌∙◌, ◌<◌, ◌≤◌, ◌+◌, ◌-◌, ℕ, List, [], ◌∷◌, Option, Bool, true, false, Result, Ok, Err, length, nat_le, inl, refl, sym, ap, arith}
use Rattle.std.proofs.lemmas.Bool.Decides.{nat_tests}
use Rattle.grain_value.specs.declared.memory.OutOfMemory.{OutOfMemory}
use Rattle.grain_program.specs.Shapes.{Arrival, arrival, shape}
use Rattle.grain_program.specs.View.{View}
use Rattle.grain_host.specs.Law.{Law}
use Rattle.grain_global.specs.declared.engines.Engine.{Engine}
use Rattle.grain_global.specs.StepsView.{StepsView}
use Rattle.grain_stack.specs.Views.{StacksView}
use Rattle.grain_stack.specs.declared.cursors.Cursor.{Cursor}
use Rattle.grain_means.specs.Worlds.{Place, World, Act, Setup}
use Rattle.grain_means.specs.Rules.{charged, loop_left, offered, onward, stepped, without_cursor}
use Rattle.grain_means.specs.Means.{setup}
use Rattle.grain_means.specs.Simulation.{Computation, Environment, SimulatesExactly, stopped, world}
use Rattle.grain_means.specs.lemmas.Stretches.{exactly, then_exactly}
use Rattle.grain_frame.specs.Abstraction.{ChargeResult, abstraction, continuation, frame_in, is_out, marked_once, moment, moved, tries_in}
use Rattle.grain_frame.specs.Looping.{ImplementsLoop}
use Rattle.grain_frame.specs.declared.activations.Activation.{Activation}
use Rattle.grain_frame.specs.declared.runs.Progress.{Progress}
use Rattle.grain_frame.specs.declared.runs.Progress.TheVariants as progress
use Rattle.grain_frame.specs.declared.runs.Run.{Run}
use Rattle.grain_frame.specs.lemmas.Charging.{SimulatesCharge, charge_failed, charge_wants, count_kept}
use Rattle.grain_frame.specs.lemmas.Looping.{stops_loop}
use Rattle.grain_frame.proofs.Looping.{fewer, leaves, leaves_ahead, left_kept, same_arrival, same_handlers, same_operands}
use Rattle.grain_frame.proofs.Serving.{kept_on}
use Rattle.grain_frame.proofs.Storing.{loop_as}

module _ {H : Type 0} (law : Law H) (p : View) (engine : Engine) (f : Activation) (s : Run H)
    (n : StepsView) (host : H) (to : ℕ) where
  -- the loop is left, and what is then left of the instruction
  abbrev left_so : Setup H → Option Place → World H → Act H
  left_so m place w =
      onward m (frame_in f s place)
      (without_cursor (stepped (frame_in f s place) to s.stacks.operands)) w

  abbrev rule : Computation H
  rule m place w = loop_left m to (frame_in f s place) w

  abbrev goes : List Arrival
  goes =
      arrival to (shape (length s.stacks.operands) (length s.stacks.cursors - 1)
      (tries_in s.stacks.handlers)) ∷ []

  pub left_ahead : (v : StacksView) (c : Cursor) → s.stacks ≡ record v { cursors = c ∷ v.cursors } →
      f.base ≤ length s.scope → f.address < to →
      ImplementsLoop (setup law p engine) (moment f s n host) rule goes 0 (Ok progress.Continues)
      (moment (moved f to) (record s { stacks = v }) (marked_once n) host)
  left_ahead v c is inside ahead =
      loop_as (λ stop u place. free (stopped (setup law p engine) stop) place
      (world (abstraction s n host) u)) (λ x i. i)
      (leaves_ahead law p engine f s n host v c is to inside ahead) where
        further : nat_le to f.address ≡ false
        further = grind (arith, nat_tests, ahead)

        free : (m : Setup H) (place : Option Place) (w : World H) → rule m place w ≡ left_so m place w
        free m place w = rw further refl

  module _ (behind : to ≤ f.address) (s' : Run H) (n' : StepsView) (host' : H)
      (before : n'.before ≡ n.before) (inside : f.base ≤ length s.scope) where
    -- the transfer costs an operation
    costs : (stop : Option ℕ) (u : Environment) (place : Option Place) →
        rule (stopped (setup law p engine) stop) place (world (abstraction s n host) u)
        ≡ charged (stopped (setup law p engine) stop) (frame_in f s place)
        (world (abstraction s n host) u) (left_so (stopped (setup law p engine) stop) place)
    costs stop u place =
        let back : nat_le to f.address ≡ true = grind (arith, nat_tests, behind) in rw back refl

    pub left_failed : (b : Bool) → b ≡ false →
        SimulatesCharge law p engine f.address s n host (Ok b) s' n' host' →
        ChargeResult engine s s' (Ok b) →
        ImplementsLoop (setup law p engine) (moment f s n host) rule goes 0 (Ok progress.Failed)
        (moment f s' n' host')
    left_failed b eb does run =
        stops_loop [] 0 s.stacks.handlers (λ e. absurd cc)
        (charge_failed law p engine f s s' n n' host host' left_so before inside costs b eb does run)

    pub left_not : (e : OutOfMemory) (r : Result Progress OutOfMemory) → is_out r ≡ true →
        SimulatesCharge law p engine f.address s n host (Err e) s' n' host' →
        ChargeResult engine s s' (Err e) →
        ImplementsLoop (setup law p engine) (moment f s n host) rule goes 0 r
        (moment f s' n' host')
    left_not e (Ok x) out does run = absurd cc
    left_not e (Err x) out does run =
        stops_loop [] 0 s.stacks.handlers (λ e. absurd cc)
        (charge_wants law p engine f s s' n n' host host' left_so before inside costs e (Err x) out
        does run)

    pub left_behind : (v : StacksView) (c : Cursor) (b : Bool) → b ≡ true →
        s'.stacks ≡ record v { cursors = c ∷ v.cursors } →
        SimulatesCharge law p engine f.address s n host (Ok b) s' n' host' →
        ChargeResult engine s s' (Ok b) →
        ImplementsLoop (setup law p engine) (moment f s n host) rule goes 0 (Ok progress.Continues)
        (moment (moved f to) (record s' { stacks = v }) (marked_once n') host')
    left_behind v c false eb is does run = absurd cc
    left_behind v c true eb is does run = record {
      same = then_exactly (exactly refl costs
          (does (frame_in f s) left_so (λ m place x w. offered m (frame_in f s place) x w))) second;
      kept = kept_on f f (moved f to) s s' (record s' { stacks = v })
          (count_kept law p engine f s s' n n' host host' f.address s'.fault s'.count (here run.0)
          (omega (arith, counted)) inside)
          (left_kept law p engine f s' n' host' v c is to
          (omega (arith, inside, ap (λ (x : Run H). length x.scope) run.0)));
      lands = (
        inl (same_arrival to
            (same_operands law p engine f s' n' host' v c is
            ∙ ap (λ (x : Run H). length x.stacks.operands) run.0)
            (fewer law p engine f s' n' host' v c is
            ∙ ap (λ (x : Run H). length x.stacks.cursors - 1) run.0)
            (ap tries_in (same_handlers law p engine f s' n' host' v c is)
            ∙ ap (λ (x : Run H). tries_in x.stacks.handlers) run.0)),
        same_handlers law p engine f s' n' host' v c is
            ∙ ap (λ (x : Run H). x.stacks.handlers) run.0,
        inl (omega (arith, counted), run.1),
      );
      before = before;
    } where
      counted : s'.count ≡ s.count + 1
      counted = ap (λ (x : Run H). x.count) run.0

      here : s' ≡ record s { count = s.count + 1 } →
          s' ≡ record s { count = s'.count; fault = s'.fault }
      here es = rw es refl

      second : SimulatesExactly (setup law p engine) (abstraction s' n' host') left_so false
          (abstraction (record s' { stacks = v }) (marked_once n') host')
          (continuation (Ok progress.Continues) s'.fault
          (frame_in (moved f to) (record s' { stacks = v })))
      second = exactly refl (λ stop u place.
          sym (ap (λ (x : Run H). onward (stopped (setup law p engine) stop) (frame_in f x place)
          (without_cursor (stepped (frame_in f x place) to x.stacks.operands))
          (world (abstraction s' n' host') u)) run.0)) (leaves law p engine f s' n' host' v c is to)
