-- A chain at which a frame stands, before it is walked and afterwards.
use Rattle.std.proofs.Common.{◌≡◌, ℕ, Result, Ok, refl, sym, subst, arith}
use Rattle.grain_value.specs.declared.memory.OutOfMemory.{OutOfMemory}
use Rattle.grain_program.specs.View.{View}
use Rattle.grain_program.specs.Indices.{InPools}
use Rattle.grain_program.specs.declared.code.instruction_set.Op.TheVariants as op
use Rattle.grain_host.specs.Law.{Law}
use Rattle.grain_global.specs.declared.engines.Engine.{Engine}
use Rattle.grain_means.specs.Worlds.{Setup}
use Rattle.grain_means.specs.Means.{setup}
use Rattle.grain_frame.specs.Abstraction.{Moment, PerformsBound, ReadyIn, Runs, Stepped}
use Rattle.grain_frame.specs.declared.runs.Progress.{Progress}
use Rattle.grain_frame.specs.lemmas.Bound.{arm_bound}
use Rattle.grain_vm.specs.Finding.{StepsHere}
use Rattle.grain_vm.specs.Methods.{NoneAbove}
use Rattle.grain_vm.specs.declared.stepping.Turn.{Turn}
use Rattle.grain_vm.specs.declared.stepping.Turn.TheVariants as turn

-- what came of the instruction is that it is this chain
pub is_chain : {H : Type 0} (m : Setup H) (a b : Moment H) (x : Turn) (index next : ℕ) →
    x ≡ turn.Chain index next → StepsHere m a (Ok x) b → StepsHere m a (Ok (turn.Chain index next)) b
is_chain m a b x index next is did = subst (λ (y : Turn). StepsHere m a (Ok y) b) is did

-- it can be walked: nothing is done yet
pub chain_ready : {H : Type 0} (m : Setup H) (a b : Moment H) (index next : ℕ) →
    Runs m.program a.frame a.run → StepsHere m a (Ok (turn.Chain index next)) b →
    ReadyIn m.program b.frame b.run (op.Chain index) next × InPools m.program (op.Chain index)
chain_ready {H = H} m a b index next runs did =
    let at = did.0 in
    let provides = at.seen.provides in
    let here : ReadyIn m.program a.frame a.run (op.Chain index) next = record {
      inside = runs.inside;
      operands = provides.enough;
      room = omega (arith, provides.room, runs.room);
      ahead = omega (arith, provides.wide, at.next_is);
    } in (
      subst (λ (x : Moment H). ReadyIn m.program x.frame x.run (op.Chain index) next) (sym did.1) here,
      provides.pools,
    )

pub chain_unbound : {H : Type 0} (m : Setup H) (a b : Moment H) (index next : ℕ) →
    StepsHere m a (Ok (turn.Chain index next)) b → NoneAbove a.run.level a.run.receivers →
    NoneAbove b.run.level b.run.receivers
chain_unbound {H = H} m a b index next did none =
    subst (λ (x : Moment H). NoneAbove x.run.level x.run.receivers) (sym did.1) none

-- it was walked, and the instruction is done
pub chain_stepped : {H : Type 0} (law : Law H) (p : View) (engine : Engine) (a b c : Moment H)
    (x : Turn) (index next : ℕ) {r : Result Progress OutOfMemory} → Runs p a.frame a.run →
    x ≡ turn.Chain index next → StepsHere (setup law p engine) a (Ok x) b →
    PerformsBound (setup law p engine) b (op.Chain index) next r c →
    Stepped (setup law p engine) a r c
chain_stepped {H = H} law p engine a b c x index next {r} runs is did walked =
    let here = is_chain (setup law p engine) a b x index next is did in
    arm_bound refl refl refl here.0 runs
    (subst (λ (k : Moment H). PerformsBound (setup law p engine) k (op.Chain index) next r c)
    here.1 walked)
