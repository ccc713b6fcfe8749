-- What follows once the count of a loop was stored, and the instruction of which that is a part.
use Rattle.std.proofs.Common.{◌≡◌, ◌∙◌, ◌≤◌, ℕ, List, Option, false, Result, Ok, Err, inl, inr, length, refl, ap, arith}
use Rattle.grain_value.specs.declared.scopes.Entry.{Entry}
use Rattle.grain_value.specs.declared.stores.Cell.{Cell}
use Rattle.grain_value.specs.declared.memory.OutOfMemory.{OutOfMemory}
use Rattle.grain_fault.specs.declared.faults.EvalAltResult.{EvalAltResult}
use Rattle.grain_program.specs.Shapes.{Arrival}
use Rattle.grain_program.specs.Typing.{In}
use Rattle.grain_program.specs.View.{View}
use Rattle.grain_host.specs.Law.{Law}
use Rattle.grain_global.specs.declared.engines.Engine.{Engine}
use Rattle.grain_global.specs.StepsView.{StepsView}
use Rattle.grain_stack.specs.Views.{StacksView}
use Rattle.grain_means.specs.Worlds.{Place, Setup}
use Rattle.grain_means.specs.Means.{setup}
use Rattle.grain_means.specs.Simulation.{Computation, Environment, SimulatesExactly, stopped, world}
use Rattle.grain_means.specs.lemmas.Stretches.{exactly, then_exactly}
use Rattle.grain_frame.specs.Abstraction.{KeepsFrame, Moment, Progresses, abstraction, moment}
use Rattle.grain_frame.specs.Looping.{ArrivesAt, CountResult, ImplementsLoop}
use Rattle.grain_frame.specs.declared.activations.Activation.{Activation}
use Rattle.grain_frame.specs.declared.runs.Progress.{Progress}
use Rattle.grain_frame.specs.declared.runs.Progress.TheVariants as progress
use Rattle.grain_frame.specs.declared.runs.Run.{Run}
use Rattle.grain_frame.proofs.Serving.{kept_on}

-- what follows a stretch at which only entries and cells were written
module _ {H : Type 0} (law : Law H) (p : View) (engine : Engine) (f : Activation) (s t : Run H)
    (n k : StepsView) (host mid : H) where
  loop_later : (f' : Activation) (s' : Run H) (goes us : List Arrival) (takes : ℕ)
      (r : Result Progress OutOfMemory) → t.stacks ≡ s.stacks → s.count ≤ t.count →
      ((x : Arrival) → In x goes → In x us) →
      ArrivesAt engine t f s' f' goes takes r → ArrivesAt engine s f s' f' us takes r
  loop_later f' s' goes us takes (Ok progress.Continues) stacks le among l =
      (among _ l.0, l.1 ∙ ap (λ (v : StacksView). v.handlers) stacks, at l.2) where
        at : Progresses engine t f s' f' → Progresses engine s f s' f'
        at (inl a) = inl (omega (arith, a.0, le), omega (arith, a.1, le))
        at (inr a) = inr (omega (arith, a.0, le), a.1)
  loop_later f' s' goes us takes (Ok progress.Returned) stacks le among l = tt
  loop_later f' s' goes us takes (Ok progress.Failed) stacks le among l = (
    omega (arith, l.0, ap (λ (v : StacksView). length v.operands) stacks),
    l.1 ∙ ap (λ (v : StacksView). v.handlers) stacks,
    l.2 ∙ ap (λ (v : StacksView). v.cursors) stacks,
  )
  loop_later f' s' goes us takes (Err e) stacks le among l = tt

  pub loop_then : (f' : Activation) (s' : Run H) (n' : StepsView) (host' : H)
      {rule via : Computation H} {goes us : List Arrival} {takes : ℕ}
      {r : Result Progress OutOfMemory} →
      SimulatesExactly (setup law p engine) (abstraction s n host) rule false
      (abstraction t k mid) via → KeepsFrame f s f t → t.stacks ≡ s.stacks →
      k.before ≡ n.before → ((x : Arrival) → In x goes → In x us) →
      ImplementsLoop (setup law p engine) (moment f t k mid) via goes takes r
      (moment f' s' n' host') →
      ImplementsLoop (setup law p engine) (moment f s n host) rule us takes r
      (moment f' s' n' host')
  loop_then f' s' n' host' {rule} {via} {goes} {us} {takes} {r} first kept stacks before among
      does = record {
        same = then_exactly first does.same;
        kept = kept_on f f f' s t s' kept does.kept;
        lands = loop_later f' s' goes us takes r stacks kept.later among does.lands;
        before = does.before ∙ before;
      }

-- what a method did for the instruction of which it is a part
pub loop_as : {H : Type 0} {m : Setup H} {a b : Moment H} {first rule : Computation H}
    {goes us : List Arrival} {takes : ℕ} {r : Result Progress OutOfMemory} →
    ((stop : Option ℕ) (u : Environment) (place : Option Place) →
    rule (stopped m stop) place (world (abstraction a.run a.counts a.host) u)
    ≡ first (stopped m stop) place (world (abstraction a.run a.counts a.host) u)) →
    ((x : Arrival) → In x goes → In x us) → ImplementsLoop m a first goes takes r b →
    ImplementsLoop m a rule us takes r b
loop_as {m = m} {a} {b} {goes = goes} {us} {takes} {r} alike among does = record {
  same = exactly refl alike does.same;
  kept = does.kept;
  lands = at r does.lands;
  before = does.before;
} where
  at : (r : Result Progress OutOfMemory) →
      ArrivesAt m.engine a.run a.frame b.run b.frame goes takes r →
      ArrivesAt m.engine a.run a.frame b.run b.frame us takes r
  at (Ok progress.Continues) l = (among _ l.0, l.1, l.2)
  at (Ok progress.Returned) l = tt
  at (Ok progress.Failed) l = l
  at (Err e) l = tt

-- entries and cells alone were written
pub count_kept : {H : Type 0} (f : Activation) (s t : Run H) → CountResult s t →
    f.base ≤ length s.scope → KeepsFrame f s f t
count_kept {H} f s t run inside = at t.scope t.cells t.fault run.1 t run.0 where
  at : (scope : List Entry) (cells : List Cell) (x : EvalAltResult) →
      length scope ≡ length s.scope → (t : Run H) →
      t ≡ record s { scope = scope; cells = cells; fault = x } → KeepsFrame f s f t
  at scope cells x long t is = rw is (record {
    chunk = refl;
    base = refl;
    scope = omega (arith, long, inside);
    room = refl;
    noted = refl;
    outer = refl;
    saved = refl;
    level = refl;
    this = (refl, refl);
    later = omega arith;
  })
