-- From what a method of an instruction on cursors did to one turn of the frame.
use Rattle.std.proofs.Common.{◌≡◌, ◌≤◌, ◌+◌, ◌-◌, ◌∙◌, ℕ, List, [], Option, Some, Result, Ok, Err, length, refl, sym, subst, ap, arith}
use Rattle.grain_value.specs.declared.memory.OutOfMemory.{OutOfMemory}
use Rattle.grain_fault.specs.Problems.{Problem}
use Rattle.grain_program.specs.declared.code.instruction_set.Op.{Op}
use Rattle.grain_program.specs.declared.code.parts.Chunk.{Chunk}
use Rattle.grain_program.specs.Decoding.{op_at}
use Rattle.grain_program.specs.Effects.{takes_of, looping_of, cursors_taken}
use Rattle.grain_program.specs.Shapes.{Arrival}
use Rattle.grain_program.specs.View.{View}
use Rattle.grain_program.specs.laws.TypedAt.{IsTypedAt, Verified}
use Rattle.grain_host.specs.Law.{Law}
use Rattle.grain_global.specs.declared.engines.Engine.{Engine}
use Rattle.grain_global.specs.StepsView.{StepsView}
use Rattle.grain_stack.specs.declared.cursors.Cursor.{Cursor}
use Rattle.grain_stack.specs.declared.handlers.Handler.{Handler}
use Rattle.grain_means.specs.Worlds.{Place}
use Rattle.grain_means.specs.Rules.{raised}
use Rattle.grain_means.specs.Means.{setup}
use Rattle.grain_means.specs.Simulation.{Computation, Environment, stopped, world}
use Rattle.grain_means.specs.lemmas.Stretches.{same}
use Rattle.grain_frame.specs.Abstraction.{ContinuesAt, Implements, KeepsFrame, Raises, Runs, StandsAt, StaysTyped, Stepped, abstraction, frame_in, moment, tries_in}
use Rattle.grain_frame.specs.Looping.{ArrivesAt, ImplementsLoop, PerformsLoop, arrivals_of, arrived}
use Rattle.grain_frame.specs.declared.activations.Activation.{Activation}
use Rattle.grain_frame.specs.declared.runs.Progress.{Progress}
use Rattle.grain_frame.specs.declared.runs.Progress.TheVariants as progress
use Rattle.grain_frame.specs.declared.runs.Run.{Run}
use Rattle.grain_frame.specs.lemmas.Arms.{performs}
use Rattle.grain_frame.specs.lemmas.Failing.{raises_here}
use Rattle.grain_frame.specs.lemmas.Standing.{verified}

-- where an instruction comes that changes the cursors, the typing knows the frame
pub arrival_typed : {H : Type 0} (p : View) (engine : Engine) (f f' : Activation) (s s' : Run H)
    (o : Op) (width : ℕ) (r : Result Progress OutOfMemory) → Runs p f s →
    Verified p f.chunk f.address (length s.stacks.operands) (length s.stacks.cursors)
    (tries_in s.stacks.handlers) o width → KeepsFrame f s f' s' →
    ArrivesAt engine s f s' f' (arrivals_of p o (f.address + width) s) (takes_of p o) r →
    StaysTyped p engine s f s' f' r
arrival_typed p engine f f' s s' o width (Ok progress.Continues) runs here kept lands =
    let inside = here.provides.inside in
    let wide = here.provides.wide in (
      subst (λ (c : Chunk). IsTypedAt p c f'.address (length s'.stacks.operands)
          (length s'.stacks.cursors) (tries_in s'.stacks.handlers)) (sym kept.chunk)
          (here.goes (arrived f' s') lands.0),
      lands.2,
      omega (arith, inside, wide),
      rw (kept.base, lands.1) runs.above,
    )
arrival_typed p engine f f' s s' o width (Ok progress.Returned) runs here kept lands = tt
arrival_typed p engine f f' s s' o width (Ok progress.Failed) runs here kept lands = (
  length s.stacks.operands - takes_of p o,
  length s.stacks.cursors - cursors_taken (looping_of o),
  lands.0,
  omega (arith, ap (λ (cs : List Cursor). length cs) lands.2),
  rw (kept.chunk, lands.1) here.covered,
  rw (kept.base, lands.1) runs.above,
)
arrival_typed p engine f f' s s' o width (Err e) runs here kept lands = tt

-- an instruction at which the frame stood was done, and changes the cursors
pub arm_loop : {H : Type 0} {law : Law H} {p : View} {engine : Engine} {f f' : Activation}
    {s s' : Run H} {n n' : StepsView} {host host' : H} {said o : Op} {next : ℕ}
    {r : Result Progress OutOfMemory} → said ≡ o → StandsAt p f s said next → Runs p f s →
    PerformsLoop (setup law p engine) (moment f s n host) o next r (moment f' s' n' host') →
    Stepped (setup law p engine) (moment f s n host) r (moment f' s' n' host')
arm_loop {H = H} {law} {p} {engine} {f} {f'} {s} {s'} {n} {n'} {host} {host'} {said} {o} {next} {r}
    is at runs does =
    let read : op_at p.code f.address ≡ Some (o, at.width) =
    at.read ∙ ap (λ (q : Op). Some (q, at.width)) is in
    let here = subst (λ (k : ℕ). PerformsLoop (setup law p engine) (moment f s n host) o k r
    (moment f' s' n' host')) at.next_is does in
    record {
      goes = performs (frame_in f s) o f.address at.width (λ place. refl) read (same here.same);
      kept = here.kept;
      stays = arrival_typed p engine f f' s s' o at.width r runs (verified is at) here.kept
          here.lands;
      before = here.before;
    }

-- what does not go on, does not go on anywhere
lands_nowhere : {H : Type 0} (engine : Engine) (s s' : Run H) (f f' : Activation) (ts : List ℕ)
    (goes : List Arrival) (takes gives : ℕ) (hs : List Handler) (r : Result Progress OutOfMemory) →
    ¬ (r ≡ Ok progress.Continues) → ContinuesAt engine s f s' f' ts takes gives hs r →
    ArrivesAt engine s f s' f' goes takes r
lands_nowhere engine s s' f f' ts goes takes gives hs (Ok progress.Continues) never l =
    absurd (never refl)
lands_nowhere engine s s' f f' ts goes takes gives hs (Ok progress.Returned) never l = tt
lands_nowhere engine s s' f f' ts goes takes gives hs (Ok progress.Failed) never l = l
lands_nowhere engine s s' f f' ts goes takes gives hs (Err e) never l = tt

-- what does not go on changes no cursors
pub stops_loop : {H : Type 0} {law : Law H} {p : View} {engine : Engine} {f f' : Activation}
    {s s' : Run H} {n n' : StepsView} {host host' : H} {rule : Computation H} (ts : List ℕ)
    {goes : List Arrival} {takes : ℕ} (gives : ℕ) (hs : List Handler)
    {r : Result Progress OutOfMemory} → ¬ (r ≡ Ok progress.Continues) →
    Implements (setup law p engine) (moment f s n host) rule ts takes gives hs r
    (moment f' s' n' host') →
    ImplementsLoop (setup law p engine) (moment f s n host) rule goes takes r
    (moment f' s' n' host')
stops_loop {engine = engine} {f} {f'} {s} {s'} ts {goes} {takes} gives hs {r} never does = record {
  same = does.same;
  kept = does.kept;
  lands = lands_nowhere engine s s' f f' ts goes takes gives hs r never does.lands;
  before = does.before;
}

-- a fault that is raised does not go on
never_continues : {H : Type 0} (s s' : Run H) (n n' : StepsView) (x : Problem)
    (r : Result Progress OutOfMemory) → Raises s n x r s' n' → ¬ (r ≡ Ok progress.Continues)
never_continues s s' n n' x (Ok progress.Continues) h e =
    let failed : progress.Continues ≡ progress.Failed = h.0 in absurd cc
never_continues s s' n n' x (Ok progress.Returned) h e = absurd cc
never_continues s s' n n' x (Ok progress.Failed) h e = absurd cc
never_continues s s' n n' x (Err y) h e = absurd cc

-- a fault is raised, and no operand is gone
pub raises_in_loop : {H : Type 0} (law : Law H) (p : View) (engine : Engine) (f : Activation)
    (s s' : Run H) (n n' : StepsView) (host : H) (x : Problem) {rule : Computation H}
    {goes : List Arrival} {takes : ℕ} (r : Result Progress OutOfMemory) → Raises s n x r s' n' →
    f.base ≤ length s.scope →
    ((stop : Option ℕ) (u : Environment) (place : Option Place) →
    rule (stopped (setup law p engine) stop) place (world (abstraction s n host) u)
    ≡ raised (stopped (setup law p engine) stop) (frame_in f s place) x
    (world (abstraction s n host) u)) →
    ImplementsLoop (setup law p engine) (moment f s n host) rule goes takes r
    (moment f s' n' host)
raises_in_loop law p engine f s s' n n' host x {rule} {goes} {takes} r h inside alike =
    stops_loop [] 0 s.stacks.handlers (never_continues s s' n n' x r h)
    (raises_here law p engine f s s' n n' host x {rule = rule} {ts = []} {takes = takes}
    {gives = 0} r h inside alike)
