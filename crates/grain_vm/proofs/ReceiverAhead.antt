-- An instruction with a receiver at which a frame stands, before it is done and afterwards.
use Rattle.std.proofs.Common.{◌≡◌, ℕ, Result, Ok, refl, sym, subst, arith}
use Rattle.grain_value.specs.declared.memory.OutOfMemory.{OutOfMemory}
use Rattle.grain_program.specs.View.{View}
use Rattle.grain_program.specs.declared.code.instruction_set.Op.TheVariants as op
use Rattle.grain_host.specs.Law.{Law}
use Rattle.grain_global.specs.declared.engines.Engine.{Engine}
use Rattle.grain_means.specs.Worlds.{Setup}
use Rattle.grain_means.specs.Means.{setup}
use Rattle.grain_frame.specs.Abstraction.{Moment, PerformsBound, Ready, ReadyIn, Runs, Stepped}
use Rattle.grain_frame.specs.declared.runs.Progress.{Progress}
use Rattle.grain_frame.specs.lemmas.Bound.{arm_bound}
use Rattle.grain_vm.specs.Finding.{IsCall, StepsHere, op_on}
use Rattle.grain_vm.specs.Methods.{NoneAbove}
use Rattle.grain_vm.specs.declared.receivers.Destination.{Destination}
use Rattle.grain_vm.specs.declared.receivers.Destination.TheVariants as destination
use Rattle.grain_vm.specs.declared.stepping.Turn.{Turn}
use Rattle.grain_vm.specs.declared.stepping.Turn.TheVariants as turn

-- what came of the instruction is that it is this one
pub is_receiver : {H : Type 0} (m : Setup H) (a b : Moment H) (x : Turn) (d : Destination)
    (count next : ℕ) → x ≡ turn.Receiver d count next → StepsHere m a (Ok x) b →
    StepsHere m a (Ok (turn.Receiver d count next)) b
is_receiver m a b x d count next is did = subst (λ (y : Turn). StepsHere m a (Ok y) b) is did

-- it may call a function
calls : (p : View) (d : Destination) (count next : ℕ) → IsCall p (op_on d count) next
calls p destination.Nowhere count next =
    record { leads = refl; gives = refl; holds = refl; keeps = refl }
calls p (destination.Slot slot) count next =
    record { leads = refl; gives = refl; holds = refl; keeps = refl }
calls p destination.This count next =
    record { leads = refl; gives = refl; holds = refl; keeps = refl }

-- it takes and gives what `call_fn_ptr` does
pub ready_as : {H : Type 0} (m : Setup H) (a : Moment H) (d : Destination) (count next : ℕ) →
    ReadyIn m.program a.frame a.run (op_on d count) next →
    Ready a.frame a.run (op.CallFnPtr count) next
ready_as m a destination.Nowhere count next ready = ready
ready_as m a (destination.Slot slot) count next ready = ready
ready_as m a destination.This count next ready = ready

-- it can be done: nothing is done yet
pub receiver_ready : {H : Type 0} (m : Setup H) (a b : Moment H) (d : Destination) (count next : ℕ) →
    Runs m.program a.frame a.run → StepsHere m a (Ok (turn.Receiver d count next)) b →
    Ready b.frame b.run (op.CallFnPtr count) next
receiver_ready {H = H} m a b d count next runs did =
    let at = did.0 in
    let provides = at.seen.provides in
    let here : ReadyIn m.program a.frame a.run (op_on d count) next = record {
      inside = runs.inside;
      operands = provides.enough;
      room = omega (arith, provides.room, runs.room);
      ahead = omega (arith, provides.wide, at.next_is);
    } in
    subst (λ (x : Moment H). Ready x.frame x.run (op.CallFnPtr count) next) (sym did.1)
    (ready_as m a d count next here)

pub receiver_unbound : {H : Type 0} (m : Setup H) (a b : Moment H) (d : Destination)
    (count next : ℕ) → StepsHere m a (Ok (turn.Receiver d count next)) b →
    NoneAbove a.run.level a.run.receivers → NoneAbove b.run.level b.run.receivers
receiver_unbound {H = H} m a b d count next did none =
    subst (λ (x : Moment H). NoneAbove x.run.level x.run.receivers) (sym did.1) none

-- it was done, and with it the instruction at which the frame stands
pub receiver_stepped : {H : Type 0} (law : Law H) (p : View) (engine : Engine) (a b c : Moment H)
    (x : Turn) (d : Destination) (count next : ℕ) (r : Result Progress OutOfMemory) →
    Runs p a.frame a.run → x ≡ turn.Receiver d count next →
    StepsHere (setup law p engine) a (Ok x) b →
    PerformsBound (setup law p engine) b (op_on d count) next r c → Stepped (setup law p engine) a r c
receiver_stepped {H = H} law p engine a b c x d count next r runs is did done =
    let here = is_receiver (setup law p engine) a b x d count next is did in
    arm_bound refl (calls p d count next).keeps (calls p d count next).holds here.0 runs
    (subst (λ (k : Moment H). PerformsBound (setup law p engine) k (op_on d count) next r c) here.1
    done)
