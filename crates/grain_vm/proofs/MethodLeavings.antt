-- How the call of a function that a walk calls ends, once the function's frame is over.
use Rattle.std.proofs.Common.{◌≡◌, List, Option, Bool, true, false, Result, Ok, Err, inl, inr, refl, arith}
use Rattle.grain_value.specs.declared.memory.OutOfMemory.{OutOfMemory}
use Rattle.grain_value.specs.declared.scopes.Entry.{Entry}
use Rattle.grain_value.specs.declared.values.Dynamic.{Dynamic}
use Rattle.grain_value.specs.declared.values.Held.{Held}
use Rattle.grain_fault.specs.Classes.{catchable}
use Rattle.grain_fault.specs.Problems.{Problem, problem_of}
use Rattle.grain_fault.specs.declared.faults.EvalAltResult.{EvalAltResult}
use Rattle.grain_fault.specs.declared.places.Position.{Position}
use Rattle.grain_program.specs.View.{View}
use Rattle.grain_program.specs.declared.code.functions.Function.{Function}
use Rattle.grain_host.specs.Law.{Law}
use Rattle.grain_global.specs.StepsView.{StepsView}
use Rattle.grain_global.specs.declared.engines.Engine.{Engine}
use Rattle.grain_means.specs.Worlds.{Failed}
use Rattle.grain_means.specs.Means.{setup}
use Rattle.grain_means.specs.Rules.InWorld.{body_over}
use Rattle.grain_means.specs.Simulation.{SimulatesExactly, StopPersists}
use Rattle.grain_chain.specs.Walking.{is_want, no_memory}
use Rattle.grain_frame.specs.Abstraction.{is_out}
use Rattle.grain_frame.specs.declared.runs.Run.{Run}
use Rattle.grain_vm.specs.Calls.{WrapsBy, caller_of, frame_answer}
use Rattle.grain_vm.specs.Driving.{beside}
use Rattle.grain_vm.specs.Methods.{GivesOutcome, Hears, LeavesBody, left_from}
use Rattle.grain_vm.specs.declared.calls.FrameEnd.{FrameEnd}
use Rattle.grain_vm.specs.declared.calls.FrameEnd.TheVariants as frame_end
use Rattle.grain_vm.proofs.MethodCalls.{may_stop}

module _ {H : Type 0} (law : Law H) (p : View) (engine : Engine) (q : Position) (g : Function)
    (n n' : StepsView) where
  -- the fault that left the frame is wrapped, or gets the call's position, or memory is out
  fault_left : (s : Run H) (x : Problem) (y : EvalAltResult) (b : Bool) → catchable x ≡ b →
      WrapsBy b p g q x (problem_of y) n n' → (scope : List Entry) (t : Option Held) (host : H)
      (heard : Hears H) → SimulatesExactly (setup law p engine) (beside scope t s n host)
      (λ m place w. body_over m q g (heard m place) (Failed x) w) (no_memory (problem_of y))
      (beside scope t s n' host) (λ m place w. heard m place (Failed (problem_of y)) w)
  fault_left s x y true eb (inl e) scope t host heard = rw (e.0, e.1) (record {
    this = refl;
    order = omega arith;
    equal = λ stop clear halts u place. rw (eb, halts) refl;
  })
  fault_left s x y true eb (inr e) scope t host heard = rw (e.0, e.1) (record {
    this = refl;
    order = omega arith;
    equal = λ stop clear halts u place. rw (eb, clear n.passed (omega arith) (omega arith)) refl;
  })
  fault_left s x y false eb e scope t host heard = may_stop (no_memory (problem_of y))
      (rw (e.0, e.1) (record {
        this = refl;
        order = omega arith;
        equal = λ stop clear halts u place. rw eb refl;
      }))

  -- what follows from the answer of the body is what follows from the outcome of the call
  pub leaves_so : (s s' : Run H) (z : EvalAltResult) → s' ≡ record (left_from s) { fault = z } →
      (end : Result FrameEnd OutOfMemory) (o : Result Dynamic EvalAltResult) →
      GivesOutcome p q g end s n o n' →
      LeavesBody (setup law p engine) q g (frame_answer end s) (caller_of s) n o s' n'
  leaves_so s s' z is (Ok frame_end.Value) o gives scope t host heard =
      rw (is, gives.0, gives.1) (record {
        this = refl;
        order = omega arith;
        equal = λ stop clear halts u place. refl;
      })
  leaves_so s s' z is (Ok frame_end.Fault) (Ok v) gives scope t host heard = absurd gives
  leaves_so s s' z is (Ok frame_end.Fault) (Err y) gives scope t host heard =
      rw is (fault_left (caller_of s) (problem_of s.fault) y (catchable (problem_of s.fault)) refl gives
      scope t host heard)
  leaves_so s s' z is (Err e) o gives scope t host heard = rw (is, gives.0, gives.1) (record {
    this = refl;
    order = omega arith;
    equal = λ stop clear halts u place. refl;
  })

  -- once memory is out, no mark is passed
  pub persists_so : (s : Run H) (end : Result FrameEnd OutOfMemory)
      (o : Result Dynamic EvalAltResult) → GivesOutcome p q g end s n o n' →
      StopPersists (is_out end) n.passed (is_want o) n'.passed
  persists_so s (Ok e) o gives = tt
  persists_so s (Err e) o gives = rw (gives.0, gives.1) (refl, refl)
