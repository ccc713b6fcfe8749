-- An operation is asked for, and what follows.
use Rattle.std.proofs.Common.{◌≡◌, ◌∙◌, ◌≤◌, ◌+◌, ℕ, List, Option, Bool, true, false, inl, Result, Ok, Err, length, nat_le, refl, ap, arith}
use Rattle.std.proofs.lemmas.Bool.Decides.{nat_tests}
use Rattle.grain_value.specs.declared.memory.OutOfMemory.{OutOfMemory}
use Rattle.grain_fault.specs.declared.faults.EvalAltResult.{EvalAltResult}
use Rattle.grain_fault.specs.Problems.{Problem, problem_of}
use Rattle.grain_stack.specs.declared.handlers.Handler.{Handler}
use Rattle.grain_program.specs.Typing.{In}
use Rattle.grain_program.specs.View.{View, position_of}
use Rattle.grain_host.specs.Law.{Law}
use Rattle.grain_global.specs.declared.engines.Engine.{Engine}
use Rattle.grain_means.specs.Worlds.{Act, Frame, Place, Setup, World}
use Rattle.grain_means.specs.Rules.{charged, charged_or, offered, onward, jumped, stepped}
use Rattle.grain_means.specs.Simulation.{Computation, Environment, SimulatesExactly, stopped, world}
use Rattle.grain_means.specs.Means.{setup}
use Rattle.grain_means.specs.lemmas.Stretches.{then_exactly}
use Rattle.grain_global.specs.StepsView.{StepsView}
use Rattle.grain_frame.specs.Abstraction.{abstraction, frame_in, is_out, continuation, charge_continuation, ChargeResult, KeepsFrame, Implements, moment}
use Rattle.grain_frame.specs.Abstraction.{moved, marked_once}
use Rattle.grain_frame.specs.declared.activations.Activation.{Activation}
use Rattle.grain_frame.specs.declared.runs.Progress.{Progress}
use Rattle.grain_frame.specs.declared.runs.Progress.TheVariants as progress
use Rattle.grain_frame.specs.declared.runs.Run.{Run}

module _ {H : Type 0} (law : Law H) (p : View) (engine : Engine) (address : ℕ) (s : Run H)
    (n : StepsView) (host : H) where
  -- what the code says of an operation that it asked for
  abbrev pub SimulatesCharge : Result Bool OutOfMemory → Run H → StepsView → H → Type 0
  SimulatesCharge r s' n' host' =
      (f : Option Place → Frame) (go : Setup H → Option Place → World H → Act H)
      (fails : Setup H → Option Place → Problem → World H → Act H) →
      SimulatesExactly (setup law p engine) (abstraction s n host)
      (λ m place w. charged_or m (position_of m.program address) (f place) (fails m place) w
      (go m place))
      (is_out r) (abstraction s' n' host') (charge_continuation r s'.fault f go fails)

module _ {H : Type 0} (law : Law H) (p : View) (engine : Engine) (f : Activation) (s s' : Run H)
    (n n' : StepsView) (host host' : H) where
  -- the frame is kept while the count rises
  pub count_kept : (t : ℕ) (x : EvalAltResult) (count : ℕ) →
      s' ≡ record s { count = count; fault = x } → s.count ≤ count → f.base ≤ length s.scope →
      KeepsFrame f s (moved f t) s'
  count_kept t x count es le inside = rw es (record {
    chunk = refl;
    base = refl;
    scope = inside;
    room = refl;
    noted = refl;
    outer = refl;
    saved = refl;
    level = refl;
    this = (refl, refl);
    later = le;
  })

  -- the operation is taken, and the frame goes on at an address
  pub charged_on : {rule : Computation H} {ts : List ℕ} (t : ℕ) (b : Bool) → b ≡ true →
      SimulatesCharge law p engine f.address s n host (Ok b) s' n' host' → ChargeResult engine s s' (Ok b) →
      n'.before ≡ n.before → f.base ≤ length s.scope → In t ts →
      ((stop : Option ℕ) (u : Environment) (place : Option Place) →
      rule (stopped (setup law p engine) stop) place (world (abstraction s n host) u)
      ≡ charged (stopped (setup law p engine) stop) (frame_in f s place)
      (world (abstraction s n host) u) (onward (stopped (setup law p engine) stop)
      (frame_in f s place) (stepped (frame_in f s place) t s.stacks.operands))) →
      Implements (setup law p engine) (moment f s n host) rule ts 0 0 s.stacks.handlers
      (Ok progress.Continues) (moment (moved f t) s' (marked_once n') host')
  charged_on t false eb does run before inside among alike = absurd cc
  charged_on {rule} {ts} t true eb does run before inside among alike = record {
    same = then_exactly (then_exactly first
        (does (frame_in f s) (λ m place. onward m (frame_in f s place)
        (stepped (frame_in f s place) t s.stacks.operands))
        (λ m place x w. offered m (frame_in f s place) x w))) second;
    kept = count_kept t s'.fault s'.count (here run.0) (omega (arith, counted)) inside;
    lands = (
      among,
      omega (arith, ap (λ (q : Run H). length q.stacks.operands) run.0),
      ap (λ (q : Run H). q.stacks.handlers) run.0,
      inl (omega (arith, counted), run.1),
      ap (λ (q : Run H). q.stacks.cursors) run.0,
    );
    before = before;
  } where
    counted : s'.count ≡ s.count + 1
    counted = ap (λ (q : Run H). q.count) run.0

    here : s' ≡ record s { count = s.count + 1 } →
        s' ≡ record s { count = s'.count; fault = s'.fault }
    here es = rw es refl

    first : SimulatesExactly (setup law p engine) (abstraction s n host) rule false
        (abstraction s n host) (λ m place w. charged m (frame_in f s place) w (onward m (frame_in f
        s place)
        (stepped (frame_in f s place) t s.stacks.operands)))
    first = record {
      this = refl;
      order = omega arith;
      equal = λ stop clear halts u place.
          alike stop u place;
    }

    second : SimulatesExactly (setup law p engine) (abstraction s' n' host')
        (λ m place w. onward m (frame_in f s place)
        (stepped (frame_in f s place) t s.stacks.operands) w) false
        (abstraction s' (marked_once n') host')
        (continuation (Ok progress.Continues) s'.fault (frame_in (moved f t) s'))
    second = rw run.0 (record {
      this = refl;
      order = omega arith;
      equal = λ stop clear halts u place. rw (clear n'.passed (omega arith) (omega arith)) refl;
    })

  abbrev fails : Setup H → Option Place → Problem → World H → Act H
  fails m place x w = offered m (frame_in f s place) x w

  -- only the count and the fault differ
  here : (place : Option Place) → s' ≡ record s { count = s'.count; fault = s'.fault } →
      frame_in f s place ≡ frame_in f s' place
  here place es = rw es refl

  module _ {rule : Computation H} (go : Setup H → Option Place → World H → Act H)
      (before : n'.before ≡ n.before) (inside : f.base ≤ length s.scope)
      (alike : (stop : Option ℕ) (u : Environment) (place : Option Place) →
      rule (stopped (setup law p engine) stop) place (world (abstraction s n host) u)
      ≡ charged (stopped (setup law p engine) stop) (frame_in f s place)
      (world (abstraction s n host) u) (go (stopped (setup law p engine) stop) place)) where
    -- a fault is raised
    pub charge_failed : {ts : List ℕ} {takes gives : ℕ} {hs : List Handler} (b : Bool) → b ≡ false →
        SimulatesCharge law p engine f.address s n host (Ok b) s' n' host' →
        ChargeResult engine s s' (Ok b) →
        Implements (setup law p engine) (moment f s n host) rule ts takes gives hs (Ok
        progress.Failed) (moment f s' n' host')
    charge_failed true eb does run = absurd cc
    charge_failed false eb does run = record {
      same = record {
        this = (does (frame_in f s) go fails).this;
        order = (does (frame_in f s) go fails).order;
        equal = λ stop clear halts u place. alike stop u place
            ∙ ((does (frame_in f s) go fails).equal stop clear halts u place
            ∙ ap (λ (q : Frame). offered (stopped (setup law p engine) stop) q (problem_of s'.fault)
            (world (abstraction s' n' host') u)) (here place run.0));
      };
      kept = count_kept f.address s'.fault s'.count run.0 run.1 inside;
      lands = (
        omega (arith, ap (λ (q : Run H). length q.stacks.operands) run.0),
        ap (λ (q : Run H). q.stacks.handlers) run.0,
        ap (λ (q : Run H). q.stacks.cursors) run.0,
      );
      before = before;
    }

    -- memory is out
    pub charge_wants : {ts : List ℕ} {takes gives : ℕ} {hs : List Handler} (e : OutOfMemory)
        (r : Result Progress OutOfMemory) → is_out r ≡ true →
        SimulatesCharge law p engine f.address s n host (Err e) s' n' host' →
        ChargeResult engine s s' (Err e) →
        Implements (setup law p engine) (moment f s n host) rule ts takes gives hs r
        (moment f s' n' host')
    charge_wants e (Ok x) er does run = absurd cc
    charge_wants e (Err x) er does run = record {
      same = record {
        this = (does (frame_in f s) go fails).this;
        order = (does (frame_in f s) go fails).order;
        equal = λ stop clear halts u place. alike stop u place
            ∙ (does (frame_in f s) go fails).equal stop clear halts u place;
      };
      kept = count_kept f.address s'.fault s'.count run.0 run.1 inside;
      lands = tt;
      before = before;
    }

-- a transfer to what does not lie ahead costs an operation
pub jump_costs : {H : Type 0} (m : Setup H) (f : Frame) (g : Frame) (w : World H) →
    g.address ≤ f.address →
    jumped m f g w ≡ charged m (record g { address = f.address }) w (onward m f g)
jump_costs m f g w behind =
    let back : nat_le g.address f.address ≡ true = grind (arith, nat_tests, behind) in rw back refl
