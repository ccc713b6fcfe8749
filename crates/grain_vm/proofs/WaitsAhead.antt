-- An instruction that waits for a native at which a frame stands, before it goes on and afterwards.
use Rattle.std.proofs.Common.{◌≡◌, ℕ, List, IfSome, false, Result, Ok, Err, refl, sym, subst}
use Rattle.grain_value.specs.declared.memory.OutOfMemory.{OutOfMemory}
use Rattle.grain_value.specs.declared.values.Held.{Held}
use Rattle.grain_program.specs.View.{View}
use Rattle.grain_program.specs.Effects.{gives_of, handling_of, leads_of, looping_of, takes_of}
use Rattle.grain_program.specs.declared.code.effects.Handling.TheVariants as handling
use Rattle.grain_program.specs.declared.code.effects.Looping.TheVariants as looping
use Rattle.grain_program.specs.declared.code.instruction_set.Op.{Op}
use Rattle.grain_host.specs.Law.{Law}
use Rattle.grain_global.specs.declared.engines.Engine.{Engine}
use Rattle.grain_means.specs.Means.{setup}
use Rattle.grain_frame.specs.Abstraction.{ImplementsBound, Moment, Runs, StandsAt, Stepped, frame_in}
use Rattle.grain_frame.specs.Targets.{home_of}
use Rattle.grain_frame.specs.Waiting.{LeadsTo, PerformsOrWaits, asking, rest_of}
use Rattle.grain_frame.specs.declared.runs.Progress.{Progress}
use Rattle.grain_frame.specs.declared.targets.Target.TheVariants as to
use Rattle.grain_frame.specs.declared.waiting.Performed.{Performed}
use Rattle.grain_frame.specs.declared.waiting.Performed.TheVariants as performed
use Rattle.grain_frame.specs.lemmas.Bound.{arm_bound}
use Rattle.grain_vm.specs.Asks.{Awaits}
use Rattle.grain_vm.specs.Finding.{StepsHere, turn_of}
use Rattle.grain_vm.specs.declared.stepping.Turn.{Turn}
use Rattle.grain_vm.specs.declared.stepping.Turn.TheVariants as turn
use Rattle.grain_vm.proofs.Awaiting.{of_some, waits_at}
use Rattle.grain_vm.proofs.NamedNatives.{is_waiting}
use Rattle.grain_vm.proofs.WaitsOn.{led_back, waited}

-- it was done, or it waits, unless memory ran out
pub turned : {H : Type 0} {law : Law H} {p : View} {engine : Engine} {a b : Moment H} {o : Op}
    {next : ℕ} → looping_of o ≡ looping.Keep → handling_of o ≡ handling.Keep →
    StandsAt p a.frame a.run o next → Runs p a.frame a.run →
    (r : Result Performed OutOfMemory) (x : Result Turn OutOfMemory) →
    x ≡ turn_of r → PerformsOrWaits (setup law p engine) a o next r b →
    StepsHere (setup law p engine) a x b
turned {H = H} {law} {p} {engine} {a} {b} {o} {next} holds keeps at runs r x is does =
    subst (λ (y : Result Turn OutOfMemory). StepsHere (setup law p engine) a y b) (sym is)
    (by r does) where
      by : (r : Result Performed OutOfMemory) → PerformsOrWaits (setup law p engine) a o next r b →
          StepsHere (setup law p engine) a (turn_of r) b
      by (Ok (performed.Leads y)) does =
          arm_bound {o = o} refl keeps holds at runs (led_back (Ok y) does)
      by (Ok performed.Waits) does = (o, next, holds, keeps, at, does)
      by (Err e) does = arm_bound {o = o} refl keeps holds at runs (led_back (Err e) does)

-- what came of it is that it waits
module _ {H : Type 0} (law : Law H) (p : View) (engine : Engine) (a b : Moment H) (x : Turn)
    (is : x ≡ turn.Waits) (did : StepsHere (setup law p engine) a (Ok x) b) where
  it_waits : StepsHere (setup law p engine) a (Ok turn.Waits) b
  it_waits = subst (λ (y : Turn). StepsHere (setup law p engine) a (Ok y) b) is did

  -- it can go on
  pub awaited : Awaits p b.frame b.run
  awaited = is_waiting it_waits.5

  -- and then it was done
  pub waits_stepped : {c : Moment H} {r : Result Progress OutOfMemory} → Runs p a.frame a.run →
      IfSome b.run.waiting (λ w. (h : Held) (takes gives : ℕ) (targets : List ℕ) →
      h.read_only ≡ false → LeadsTo p b.frame b.run w.rest takes gives targets →
      ImplementsBound (setup law p engine) b
      (λ m place v. asking (home_of to.This) b.run w.asked w.lent (frame_in b.frame b.run)
      (rest_of h w.rest (frame_in b.frame b.run)) m place v) targets takes gives
      b.run.stacks.handlers r c) → Stepped (setup law p engine) a r c
  waits_stepped {c} {r} runs goes =
      let o = it_waits.0 in
      let does = it_waits.5 in
      let at = waits_at does.lands.0 does.lands.1 does in
      arm_bound {o = o} refl it_waits.3 it_waits.2 it_waits.4 runs (waited at
      ((of_some _ does.lands.1 goes) at.held (takes_of p o) (gives_of o) (leads_of p o it_waits.1)
      at.plain at.lands.0))
