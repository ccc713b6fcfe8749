-- Plain instructions, and what follows where one is not plain.
use Rattle.std.proofs.Common.{◌≡◌, ◌∙◌, true, false, Option, None, Result, Ok, refl, sym, subst, ap}
use Rattle.grain_value.specs.declared.memory.OutOfMemory.{OutOfMemory}
use Rattle.grain_program.specs.View.{View}
use Rattle.grain_program.specs.declared.code.instruction_set.Op.{Op}
use Rattle.grain_program.specs.declared.code.instruction_set.Op.TheVariants as op
use Rattle.grain_host.specs.Law.{Law}
use Rattle.grain_global.specs.StepsView.{StepsView}
use Rattle.grain_global.specs.declared.engines.Engine.{Engine}
use Rattle.grain_means.specs.Means.{setup}
use Rattle.grain_frame.specs.Abstraction.{AsksNothing, IsNoCall, Moment, RunsNoMethod, Stepped, moment}
use Rattle.grain_frame.specs.declared.activations.Activation.{Activation}
use Rattle.grain_frame.specs.declared.runs.Progress.{Progress}
use Rattle.grain_frame.specs.declared.runs.Run.{Run}
use Rattle.grain_vm.specs.Finding.{StepsIfPlain, is_plain}

module _ (o : Op) (plain : is_plain o ≡ true) where
  other : (q : Op) → o ≡ q → is_plain q ≡ false → ⊥
  other q e out = let clash : true ≡ false = sym plain ∙ ap is_plain e ∙ out in absurd cc

  -- it calls nothing
  pub plain_calls : IsNoCall o
  plain_calls = (
    (λ name count e. other (op.Call name count) e refl),
    (λ count e. other (op.CallFnPtr count) e refl),
  )

  -- it runs no function that has a `this`
  pub plain_runs : RunsNoMethod o
  plain_runs = (
    (λ index e. other (op.Chain index) e refl),
    (λ count e. other (op.CallFnPtrMethod count) e refl),
    (λ count slot e. other (op.CallFnPtrOnLocal count slot) e refl),
    (λ count e. other (op.CallFnPtrOnThis count) e refl),
  )

  -- and asks the host for no native
  pub plain_asks : AsksNothing o
  plain_asks = (
    (λ slot name k e. other (op.AssignLocalOp slot name k) e refl),
    (λ k e. other (op.AssignThisOp k) e refl),
    (λ name count token e. other (op.CallOp name count token) e refl),
    (λ e. other op.InterpolateAppend e refl),
  )

-- what was done after nothing was done
pub stepped_from : {H : Type 0} (law : Law H) (p : View) (engine : Engine) (f f1 : Activation)
    (s s1 : Run H) (n n1 : StepsView) (host host1 : H) (c : Moment H)
    (r : Result Progress OutOfMemory) (o : Option Progress) → o ≡ None →
    StepsIfPlain (setup law p engine) (moment f s n host) (Ok o) (moment f1 s1 n1 host1) →
    Stepped (setup law p engine) (moment f1 s1 n1 host1) r c →
    Stepped (setup law p engine) (moment f s n host) r c
stepped_from law p engine f f1 s s1 n n1 host host1 c r o none plain did =
    let same = subst (λ (x : Option Progress). StepsIfPlain (setup law p engine)
    (moment f s n host) (Ok x) (moment f1 s1 n1 host1)) none plain in
    rw (same.0, same.1, same.2, same.3) at did
