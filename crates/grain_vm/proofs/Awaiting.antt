-- An instruction that waits for this native, and the run before the native is taken out of it.
use Rattle.std.proofs.Common.{◌≡◌, ◌∙◌, ℕ, List, Option, Some, IfSome, false, Result, Ok, sym, subst}
use Rattle.grain_value.specs.declared.scopes.Entry.{Entry}
use Rattle.grain_value.specs.declared.values.Dynamic.{Dynamic}
use Rattle.grain_value.specs.declared.values.Held.{Held}
use Rattle.grain_fault.specs.declared.faults.EvalAltResult.{EvalAltResult}
use Rattle.grain_fault.specs.declared.places.Position.{Position}
use Rattle.grain_global.specs.StepsView.{StepsView}
use Rattle.grain_stack.specs.declared.handlers.Handler.{Handler}
use Rattle.grain_means.specs.Worlds.{Setup}
use Rattle.grain_means.specs.Simulation.{Computation, Simulates}
use Rattle.grain_frame.specs.Abstraction.{KeepsFrame, Moment, abstraction, frame_in}
use Rattle.grain_frame.specs.Targets.{home_of}
use Rattle.grain_frame.specs.Waiting.{ImplementsOrWaits, IsKept, LeadsTo, Lends, asking, rest_of, waits_continuation}
use Rattle.grain_frame.specs.declared.native_calls.Asked.{Asked}
use Rattle.grain_frame.specs.declared.runs.Run.{Run}
use Rattle.grain_frame.specs.declared.targets.Target.TheVariants as to
use Rattle.grain_frame.specs.declared.waiting.Loan.{Loan}
use Rattle.grain_frame.specs.declared.waiting.Loan.TheVariants as have
use Rattle.grain_frame.specs.declared.waiting.Performed.TheVariants as performed
use Rattle.grain_frame.specs.declared.waiting.Waiting.{Waiting}
use Rattle.grain_vm.specs.Asks.{EndsNative, NativeOver, ThisOver}

-- how an instruction goes on that waits for this native
abbrev pub LandsWaiting : {H : Type 0} → Setup H → Moment H → Moment H → List ℕ →
    (takes gives : ℕ) → List Handler → Waiting → Type 0
LandsWaiting m a b targets takes gives handlers w =
    LeadsTo m.program b.frame b.run w.rest takes gives targets × Lends w.rest w.lent
    × IsKept b.run w.lent × (b.run.stacks.operands ≡ a.run.stacks.operands)
    × (b.run.stacks.handlers ≡ handlers) × (b.run.stacks.handlers ≡ a.run.stacks.handlers)
    × (b.frame ≡ a.frame) × (b.run.stacks.cursors ≡ a.run.stacks.cursors)

-- the code did what a rule says up to where the instruction waits for this native
pub record WaitsAt {H : Type 0} (m : Setup H) (a : Moment H) (rule : Computation H)
    (targets : List ℕ) (takes gives : ℕ) (handlers : List Handler) (w : Waiting) (b : Moment H) :
    Type 0 where
  pub held : Held
  pub plain : held.read_only ≡ false
  pub same : Simulates m (abstraction a.run a.counts a.host) rule false
      (abstraction b.run b.counts b.host)
      (λ n place v. asking (home_of to.This) b.run w.asked w.lent (frame_in b.frame b.run)
      (rest_of held w.rest (frame_in b.frame b.run)) n place v)
  pub kept : KeepsFrame a.frame a.run b.frame b.run
  pub lands : LandsWaiting m a b targets takes gives handlers w
  pub before : b.counts.before ≡ a.counts.before

-- what is so of the value that there is
pub of_some : {A : Type 0} (P : A → Type 0) {x : Option A} {a : A} → x ≡ Some a → IfSome x P → P a
of_some P is so = subst (λ y. IfSome y P) is so

pub for_some : {A : Type 0} (P : A → Type 0) {x : Option A} {a : A} → x ≡ Some a → P a → IfSome x P
for_some P is so = subst (λ y. IfSome y P) (sym is) so

lands_at : {H : Type 0} (m : Setup H) (a b : Moment H) (ts : List ℕ) (takes gives : ℕ)
    (hs : List Handler) (v w : Waiting) → Some v ≡ Some w →
    LandsWaiting m a b ts takes gives hs v → LandsWaiting m a b ts takes gives hs w
lands_at m a b ts takes gives hs v w is lands =
    of_some (λ x. LandsWaiting m a b ts takes gives hs x) is lands

module _ {H : Type 0} {m : Setup H} {a b : Moment H} {rule : Computation H} {ts : List ℕ}
    {takes gives : ℕ} {hs : List Handler} where
  -- what came of it is that it waits, and the run has this native
  pub waits_at : (w : Waiting) → b.run.waiting ≡ Some w →
      ImplementsOrWaits m a rule ts takes gives hs (Ok performed.Waits) b →
      WaitsAt m a rule ts takes gives hs w b
  waits_at w has does = record {
    held = does.held;
    plain = does.plain;
    same = subst (λ (x : Option Waiting). Simulates m (abstraction a.run a.counts a.host) rule false
        (abstraction b.run b.counts b.host)
        (λ n place v. waits_continuation does.held x b.run (frame_in b.frame b.run) n place v)) has
        does.same;
    kept = does.kept;
    lands = lands_at m a b ts takes gives hs does.lands.0 w (sym does.lands.1 ∙ has) (
      does.lands.2,
      does.lands.3,
      does.lands.4,
      does.lands.5,
      does.lands.6,
      does.lands.7,
      does.lands.8,
      does.lands.9,
    );
    before = does.before;
  }

-- ---- the run without what waits

module _ {H : Type 0} (s : Run H) (x : Option Waiting) where
  this_over : (l : Loan) (s' : Run H) → ThisOver l (record s { waiting = x }) s' → ThisOver l s s'
  this_over have.Nothing s' over = over
  this_over (have.Target t) s' over = over
  this_over (have.Cell n h) s' over = over
  this_over (have.Apart h) s' over = over

  -- a native was over from there
  pub over_from : (l : Loan) (s' : Run H) → NativeOver l (record s { waiting = x }) s' →
      NativeOver l s s'
  over_from l s' over = record {
    scope = over.scope;
    saved = over.saved;
    level = over.level;
    receivers = this_over l s' over.receivers;
    room = over.room;
    noted = over.noted;
    outer = over.outer;
    operands = over.operands;
    cursors = over.cursors;
    totals = over.totals;
    handlers = over.handlers;
    back = over.back;
    later = over.later;
  }

  -- and had ended as the meaning does
  pub ends_from : (m : Setup H) (a : Asked) (l : Loan) (q : Position) (n : StepsView) (host : H)
      (o : Result Dynamic EvalAltResult) (left : Option Held) (s' : Run H) (n' : StepsView)
      (host' : H) →
      EndsNative m (record { asked = a; lent = l; pos = q }) (record s { waiting = x }) n host o
      left s' n' host' →
      EndsNative m (record { asked = a; lent = l; pos = q }) s n host o left s' n' host'
  ends_from m a have.Nothing q n host o left s' n' host' ends = ends
  ends_from m a (have.Target (to.Entry i)) q n host o left s' n' host' ends = ends
  ends_from m a (have.Target (to.Cell c)) q n host o left s' n' host' ends = ends
  ends_from m a (have.Target to.This) q n host o left s' n' host' ends = ends
  ends_from m a (have.Cell c h) q n host o left s' n' host' ends = ends
  ends_from m a (have.Apart h) q n host o left s' n' host' ends = ends
