-- A call that begins, once an operation was asked for.
use Rattle.std.proofs.Common.{◌≡◌, ◌+◌, ℕ, Option, Bool, true, false, Result, Ok, Err, length, refl, subst}
use Rattle.grain_value.specs.declared.memory.OutOfMemory.{OutOfMemory}
use Rattle.grain_fault.specs.Problems.{Problem}
use Rattle.grain_program.specs.View.{View}
use Rattle.grain_program.specs.declared.code.functions.Function.{Function}
use Rattle.grain_host.specs.Law.{Law}
use Rattle.grain_global.specs.declared.engines.Engine.{Engine}
use Rattle.grain_means.specs.Worlds.{Act, Place, Setup, World}
use Rattle.grain_means.specs.Rules.{offered, enter_function, function_entered}
use Rattle.grain_means.specs.Simulation.{LocalState, Computation, SimulatesExactly}
use Rattle.grain_means.specs.Means.{setup}
use Rattle.grain_means.specs.lemmas.Stretches.{then_exactly}
use Rattle.grain_global.specs.StepsView.{StepsView}
use Rattle.grain_frame.specs.Abstraction.{abstraction, frame_in, is_out, this_of, ChargeResult}
use Rattle.grain_vm.specs.Calls.{call_continuation}
use Rattle.grain_vm.specs.Driving.{beside}
use Rattle.grain_frame.specs.declared.activations.Activation.{Activation}
use Rattle.grain_frame.specs.declared.runs.Run.{Run}
use Rattle.grain_frame.specs.lemmas.Charging.{SimulatesCharge}

module _ {H : Type 0} (law : Law H) (p : View) (engine : Engine) (f : Activation)
    (s t s' : Run H) (n k n' : StepsView) (host mid : H) (g : Function) where
  abbrev count : ℕ
  count = length g.params

  abbrev fails_in : Run H → Setup H → Option Place → Problem → World H → Act H
  fails_in q m place x w = offered m (frame_in f q place) x w

  -- only the count differs before and after the operation is taken
  same_call : {old new : LocalState H} {start : Computation H} {out : Bool} (many next : ℕ)
      (r : Result Bool OutOfMemory) → SimulatesExactly (setup law p engine) old start out new
      (call_continuation r (record s { count = many }) s' g (frame_in f s) next) →
      SimulatesExactly (setup law p engine) old start out new
      (call_continuation r s s' g (frame_in f s) next)
  same_call many next (Ok true) h = h
  same_call many next (Ok false) h = h
  same_call many next (Err e) h = h

  -- the operation is taken, and the frame is entered or not
  pub begun : (b : Bool) → b ≡ true → SimulatesCharge law p engine f.address s n host (Ok b) t k mid →
      ChargeResult engine s t (Ok b) → (r : Result Bool OutOfMemory) (next : ℕ) →
      SimulatesExactly (setup law p engine) (abstraction t k mid)
      (λ m place w. function_entered m g count (frame_in f t place) next w) (is_out r)
      (beside s'.scope (this_of t) s' n' mid) (call_continuation r t s' g (frame_in f t) next) →
      SimulatesExactly (setup law p engine) (abstraction s n host)
      (λ m place w. enter_function m g count (frame_in f s place) next w) (is_out r)
      (beside s'.scope (this_of s) s' n' mid) (call_continuation r s s' g (frame_in f s) next)
  begun false eb does run r next enters = absurd cc
  begun true eb does run r next enters =
      then_exactly (does (frame_in f s)
      (λ m place. function_entered m g count (frame_in f s place) next) (fails_in s))
      (same_call (s.count + 1) next r (subst (λ (q : Run H). SimulatesExactly (setup law p engine)
      (abstraction t k mid) (λ m place w. function_entered m g count (frame_in f q place) next w)
      (is_out r) (beside s'.scope (this_of q) s' n' mid)
      (call_continuation r q s' g (frame_in f q) next)) run.0
      enters))

  -- a fault is raised in the caller's frame before its operation was taken, or then
  pub call_refused : (b : Bool) → b ≡ false →
      SimulatesCharge law p engine f.address s n host (Ok b) t k mid → (next : ℕ) →
      SimulatesExactly (setup law p engine) (abstraction s n host)
      (λ m place w. enter_function m g count (frame_in f s place) next w) false
      (beside t.scope (this_of s) t k mid)
      (call_continuation (Ok false) s t g (frame_in f s) next)
  call_refused true eb does next = absurd cc
  call_refused false eb does next =
      let did = does (frame_in f s)
      (λ m place. function_entered m g count (frame_in f s place) next) (fails_in s) in
      record {
        this = refl;
        order = did.order;
        equal = λ stop clear halts u place.
            did.equal stop clear halts u place;
      }

  -- memory is out
  pub call_wants : (e : OutOfMemory) → SimulatesCharge law p engine f.address s n host (Err e) t k mid →
      (next : ℕ) → SimulatesExactly (setup law p engine) (abstraction s n host)
      (λ m place w. enter_function m g count (frame_in f s place) next w) true
      (beside t.scope (this_of s) t k mid) (call_continuation (Err e) s t g (frame_in f s) next)
  call_wants e does next =
      let did = does (frame_in f s)
      (λ m place. function_entered m g count (frame_in f s place) next) (fails_in s) in
      record {
        this = refl;
        order = did.order;
        equal = λ stop clear halts u place.
            did.equal stop clear halts u place;
      }
