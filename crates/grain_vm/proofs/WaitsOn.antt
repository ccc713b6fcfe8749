-- An instruction that waits for a native, one native after another.
use Rattle.std.proofs.Common.{◌≡◌, ◌∙◌, ◌<◌, ◌≤◌, ℕ, List, Option, Some, None, Bool, true, false, inl, inr, Result, Ok, Err, length, refl, sym, ap, subst, arith}
use Rattle.grain_value.specs.declared.memory.OutOfMemory.{OutOfMemory}
use Rattle.grain_value.specs.declared.values.Dynamic.{Dynamic}
use Rattle.grain_value.specs.declared.values.Held.{Held}
use Rattle.grain_value.specs.declared.values.Dynamic.TheVariants as dynamic
use Rattle.grain_value.specs.Operands.{read_write}
use Rattle.grain_fault.specs.declared.faults.EvalAltResult.{EvalAltResult}
use Rattle.grain_fault.specs.declared.places.Position.{Position}
use Rattle.grain_stack.specs.declared.handlers.Handler.{Handler}
use Rattle.grain_global.specs.StepsView.{StepsView}
use Rattle.grain_global.specs.declared.engines.Engine.{Engine}
use Rattle.grain_means.specs.Worlds.{Answer, Frame, Place, Setup}
use Rattle.grain_means.specs.Simulation.{Computation, LocalState, Simulates, stopped, world}
use Rattle.grain_means.specs.lemmas.Stretches.{compose, same, stays}
use Rattle.grain_chain.specs.Walking.{is_want, outcome_of}
use Rattle.grain_frame.specs.Abstraction.{ContinuesAt, ImplementsBound, Moment, Progresses, abstraction, frame_in, is_out, moment, this_of}
use Rattle.grain_frame.specs.Natives.{IsAt}
use Rattle.grain_frame.specs.Rests.{WaitsLess, awaits_left, waits_left}
use Rattle.grain_frame.specs.Targets.{home_of}
use Rattle.grain_frame.specs.Waiting.{ImplementsOrWaits, LandsOrWaits, LeadsTo, Lends, answer_of, asking, performed_of, rest_of, state_after}
use Rattle.grain_frame.specs.declared.activations.Activation.{Activation}
use Rattle.grain_frame.specs.declared.runs.Progress.{Progress}
use Rattle.grain_frame.specs.declared.runs.Progress.TheVariants as progress
use Rattle.grain_frame.specs.declared.runs.Run.{Run}
use Rattle.grain_frame.specs.declared.targets.Target.TheVariants as to
use Rattle.grain_frame.specs.declared.waiting.Performed.{Performed}
use Rattle.grain_frame.specs.declared.waiting.Performed.TheVariants as performed
use Rattle.grain_frame.specs.declared.waiting.Waiting.{Waiting}
use Rattle.grain_vm.specs.Asks.{EndsNative, IsWaiting, NativeOver}
use Rattle.grain_vm.specs.Methods.{NoneAbove}
use Rattle.grain_vm.proofs.Awaiting.{WaitsAt, of_some, waits_at}
use Rattle.grain_vm.proofs.Turns.{none_on}
use Rattle.grain_vm.proofs.Waited.{kept_on, kept_over, leads_inside, leads_over, rests_out, same_answer, same_frame, state_back, state_here}

-- ---- where a frame goes on

progresses_from : {H : Type 0} (engine : Engine) (s t u : Run H) (f g h : Activation) →
    s.count ≤ t.count → g ≡ f → Progresses engine t g u h → Progresses engine s f u h
progresses_from engine s t u f g h later is (inl a) =
    inl (omega (arith, a.0, later), omega (arith, a.1, later))
progresses_from engine s t u f g h later is (inr a) = inr (
  omega (arith, a.0, later),
  omega (arith, a.1, ap (λ (x : Activation). x.address) is),
)

continues_from : {H : Type 0} (engine : Engine) (s t u : Run H) (f g h : Activation) (ts : List ℕ)
    (takes gives : ℕ) (hs : List Handler) (r : Result Progress OutOfMemory) →
    t.stacks.operands ≡ s.stacks.operands → t.stacks.handlers ≡ hs →
    t.stacks.handlers ≡ s.stacks.handlers → t.stacks.cursors ≡ s.stacks.cursors →
    s.count ≤ t.count → g ≡ f →
    ContinuesAt engine t g u h ts takes gives t.stacks.handlers r →
    ContinuesAt engine s f u h ts takes gives hs r
continues_from engine s t u f g h ts takes gives hs (Ok progress.Continues) ops has handlers
    cursors later is lands = (
      lands.0,
      omega (arith, lands.1, ap (λ (q : List Held). length q) ops),
      lands.2 ∙ has,
      progresses_from engine s t u f g h later is lands.3,
      lands.4 ∙ cursors,
    )
continues_from engine s t u f g h ts takes gives hs (Ok progress.Returned) ops has handlers
    cursors later is lands = tt
continues_from engine s t u f g h ts takes gives hs (Ok progress.Failed) ops has handlers
    cursors later is lands = (
      omega (arith, lands.0, ap (λ (q : List Held). length q) ops),
      lands.1 ∙ handlers,
      lands.2 ∙ cursors,
    )
continues_from engine s t u f g h ts takes gives hs (Err e) ops has handlers cursors later is lands =
    tt

lands_from : {H : Type 0} (m : Setup H) (a b c : Moment H) (ts : List ℕ) (takes gives : ℕ)
    (hs : List Handler) (r : Result Performed OutOfMemory) →
    b.run.stacks.operands ≡ a.run.stacks.operands → b.run.stacks.handlers ≡ hs →
    b.run.stacks.handlers ≡ a.run.stacks.handlers → b.run.stacks.cursors ≡ a.run.stacks.cursors →
    a.run.count ≤ b.run.count → b.frame ≡ a.frame →
    LandsOrWaits m b c ts takes gives b.run.stacks.handlers r → LandsOrWaits m a c ts takes gives hs r
lands_from m a b c ts takes gives hs (Ok (performed.Leads p)) ops has handlers cursors later is
    lands =
    continues_from m.engine a.run b.run c.run a.frame b.frame c.frame ts takes gives hs (Ok p) ops
    has handlers cursors later is lands
lands_from m a b c ts takes gives hs (Ok performed.Waits) ops has handlers cursors later is
    lands = (
      lands.0,
      lands.1,
      lands.2,
      lands.3,
      lands.4,
      lands.5 ∙ ops,
      lands.6 ∙ has,
      lands.7 ∙ handlers,
      lands.8 ∙ is,
      lands.9 ∙ cursors,
    )
lands_from m a b c ts takes gives hs (Err e) ops has handlers cursors later is lands = tt

-- ---- an instruction that waits no more

module _ {H : Type 0} {m : Setup H} {a b : Moment H} {rule : Computation H} {ts : List ℕ}
    {takes gives : ℕ} {hs : List Handler} where
  pub led_back : (r : Result Progress OutOfMemory) →
      ImplementsOrWaits m a rule ts takes gives hs (performed_of r) b →
      ImplementsBound m a rule ts takes gives hs r b
  led_back (Ok p) does = record {
    same = does.same;
    kept = does.kept;
    lands = does.lands;
    before = does.before;
  }
  led_back (Err e) does = record {
    same = does.same;
    kept = does.kept;
    lands = tt;
    before = does.before;
  }

  pub led_to : {q : Performed} {p : Progress} → q ≡ performed.Leads p →
      ImplementsOrWaits m a rule ts takes gives hs (Ok q) b →
      ImplementsBound m a rule ts takes gives hs (Ok p) b
  led_to {q} {p} is does = led_back (Ok p)
      (subst (λ (x : Performed). ImplementsOrWaits m a rule ts takes gives hs (Ok x) b) is does)

  pub out_back : (e : OutOfMemory) (q : Result Progress OutOfMemory) → is_out q ≡ true →
      ImplementsOrWaits m a rule ts takes gives hs (Err e) b →
      ImplementsBound m a rule ts takes gives hs q b
  out_back e (Ok p) out does = absurd cc
  out_back e (Err x) out does = record {
    same = does.same;
    kept = does.kept;
    lands = tt;
    before = does.before;
  }

-- it went on until it was done
pub waited : {H : Type 0} {m : Setup H} {a b c : Moment H} {rule : Computation H} {ts : List ℕ}
    {takes gives : ℕ} {hs : List Handler} {w : Waiting} {r : Result Progress OutOfMemory}
    (does : WaitsAt m a rule ts takes gives hs w b) → ImplementsBound m b
    (λ m place v. asking (home_of to.This) b.run w.asked w.lent (frame_in b.frame b.run)
    (rest_of does.held w.rest (frame_in b.frame b.run)) m place v) ts takes gives
    b.run.stacks.handlers r c → ImplementsBound m a rule ts takes gives hs r c
waited {m = m} {a} {b} {c} {ts = ts} {takes} {gives} {hs} {r = r} does then = record {
  same = compose does.same then.same tt;
  kept = kept_on a.frame b.frame c.frame a.run b.run c.run does.kept then.kept;
  lands = continues_from m.engine a.run b.run c.run a.frame b.frame c.frame ts takes gives hs r
      does.lands.3 does.lands.4 does.lands.5 does.lands.7 does.kept.later does.lands.6 then.lands;
  before = then.before ∙ does.before;
}

-- ---- a native for which it waited is over

module _ {H : Type 0} {m : Setup H} (b : Moment H) (w : Waiting) (q : Position) (s' : Run H)
    (n' : StepsView) (host' : H) (o : Result Dynamic EvalAltResult) (left : Option Held)
    (lends : Lends w.rest w.lent) (over : NativeOver w.lent b.run s')
    (ended : EndsNative m (record { asked = w.asked; lent = w.lent; pos = q }) b.run b.counts b.host
    o left s' n' host') (at : IsAt m (frame_in b.frame b.run) q) where
  abbrev asks_so : Held → Computation H
  asks_so h m place v =
      asking (home_of to.This) b.run w.asked w.lent (frame_in b.frame b.run)
      (rest_of h w.rest (frame_in b.frame b.run)) m place v

  heard : (h : Held) → Simulates m (abstraction b.run b.counts b.host) (asks_so h) (is_want o)
      (abstraction s' n' host')
      (λ m place v. rest_of h w.rest (frame_in b.frame s') m place (outcome_of o) v)
  heard h =
      let f = frame_in b.frame b.run in
      let first = ended f (rest_of h w.rest f) b.run.scope (this_of b.run) at in
      let second = subst (λ (x : LocalState H). Simulates m x (asks_so h) (is_want o)
      (state_after w.lent left b.run.scope (this_of b.run) s' n' host')
      (λ m place v. rest_of h w.rest f m place (outcome_of o) v))
      (state_here b.run b.counts b.host w.rest w.lent lends) first in
      let third = subst (λ (x : LocalState H). Simulates m (abstraction b.run b.counts b.host)
      (asks_so h) (is_want o) x (λ m place v. rest_of h w.rest f m place (outcome_of o) v))
      (state_back b.run s' n' host' w.rest w.lent left lends over) second in
      subst (λ (g : Option Place → Frame). Simulates m (abstraction b.run b.counts b.host) (asks_so h)
      (is_want o) (abstraction s' n' host')
      (λ m place v. rest_of h w.rest g m place (outcome_of o) v))
      (same_frame b.frame b.run s' over.operands over.cursors over.totals over.handlers) third

  heard_out : (h : Held) → is_want o ≡ true →
      Simulates m (abstraction b.run b.counts b.host) (asks_so h) true (abstraction s' n' host')
      (λ m place v. rest_of h w.rest (frame_in b.frame s') m place (outcome_of o) v)
  heard_out h want =
      subst (λ (x : Bool). Simulates m (abstraction b.run b.counts b.host) (asks_so h) x
      (abstraction s' n' host')
      (λ m place v. rest_of h w.rest (frame_in b.frame s') m place (outcome_of o) v)) want (heard h)

  heard_on : (h : Held) → is_want o ≡ false →
      Simulates m (abstraction b.run b.counts b.host) (asks_so h) false (abstraction s' n' host')
      (λ m place v. rest_of h w.rest (frame_in b.frame s') m place (answer_of o) v)
  heard_on h want =
      subst (λ (y : Answer). Simulates m (abstraction b.run b.counts b.host) (asks_so h) false
      (abstraction s' n' host')
      (λ m place v. rest_of h w.rest (frame_in b.frame s') m place y v)) (sym (same_answer o))
      (subst (λ (x : Bool). Simulates m (abstraction b.run b.counts b.host) (asks_so h) x
      (abstraction s' n' host')
      (λ m place v. rest_of h w.rest (frame_in b.frame s') m place (outcome_of o) v)) want (heard h))

  module _ {a : Moment H} {rule : Computation H} {ts : List ℕ} {takes gives : ℕ}
      {hs : List Handler} (before : n'.before ≡ b.counts.before)
      (so : WaitsAt m a rule ts takes gives hs w b) where
    inside : b.frame.base ≤ length b.run.scope
    inside = leads_inside m.program b.frame b.run w.rest takes gives ts so.lands.0

    -- memory ran out meanwhile
    pub over_out : {e : OutOfMemory} → is_want o ≡ true →
        ImplementsBound m a rule ts takes gives hs (Err e) (moment b.frame s' n' host')
    over_out want = record {
      same = compose so.same
          (compose {one = true} (heard_out so.held want) (same (record {
            this = refl;
            order = omega arith;
            equal = λ stop clear halts u place.
                rests_out so.held w.rest (frame_in b.frame s') o (stopped m stop) place
                (world (abstraction s' n' host') u) want;
          })) (refl, refl)) tt;
      kept = kept_on a.frame b.frame b.frame a.run b.run s' so.kept
          (kept_over b.frame b.run s' w.lent inside over);
      lands = tt;
      before = before ∙ so.before;
    }

    -- the instruction goes on
    pub over_on : {r : Result Performed OutOfMemory} {c : Moment H} → is_want o ≡ false →
        ((takes gives : ℕ) (targets : List ℕ) (h : Held) →
        LeadsTo m.program b.frame s' w.rest takes gives targets → h.read_only ≡ false →
        ImplementsOrWaits m (moment b.frame s' n' host')
        (λ m place v. rest_of h w.rest (frame_in b.frame s') m place (answer_of o) v) targets takes
        gives s'.stacks.handlers r c) → ImplementsOrWaits m a rule ts takes gives hs r c
    over_on {r} {c} want then =
        let leads = leads_over m.program b.frame b.run s' w.lent over w.rest takes gives ts lends
        so.lands.0 in
        let next = then takes gives ts so.held leads so.plain in
        record {
          held = next.held;
          plain = next.plain;
          same = compose so.same (compose (heard_on so.held want) next.same tt) tt;
          kept = kept_on a.frame b.frame c.frame a.run b.run c.run so.kept
              (kept_on b.frame b.frame c.frame b.run s' c.run
              (kept_over b.frame b.run s' w.lent inside over) next.kept);
          lands = lands_from m a (moment b.frame s' n' host') c ts takes gives hs r
              (over.operands ∙ so.lands.3) (over.handlers ∙ so.lands.4)
              (over.handlers ∙ so.lands.5) (over.cursors ∙ so.lands.7)
              (omega (arith, so.kept.later, over.later)) so.lands.6 next.lands;
          before = next.before ∙ (before ∙ so.before);
        }

-- ---- natives one after another

-- the first of them was this one, and now the instruction waits for that
pub record WaitsSo {H : Type 0} (m : Setup H) (a : Moment H) (first w : Waiting) (b : Moment H) :
    Type 0 where
  pub waits : IsWaiting m.program b.frame b.run w
  pub none : NoneAbove b.run.level b.run.receivers
  pub later : a.run.count ≤ b.run.count
  pub so : (h : Held) (takes gives : ℕ) (targets : List ℕ) → h.read_only ≡ false →
      LeadsTo m.program a.frame a.run first.rest takes gives targets →
      WaitsAt m a
      (λ m place v. asking (home_of to.This) a.run first.asked first.lent (frame_in a.frame a.run)
      (rest_of h first.rest (frame_in a.frame a.run)) m place v) targets takes gives
      a.run.stacks.handlers w b

pub waits_first : {H : Type 0} (m : Setup H) (a : Moment H) (w : Waiting) →
    IsWaiting m.program a.frame a.run w → NoneAbove a.run.level a.run.receivers →
    WaitsSo m a w w a
waits_first m a w waits none = record {
  waits = waits;
  none = none;
  later = omega arith;
  so = λ h takes gives targets plain leads. record {
    held = h;
    plain = plain;
    same = stays;
    kept = record {
      chunk = refl;
      base = refl;
      scope = leads_inside m.program a.frame a.run w.rest takes gives targets leads;
      room = refl;
      noted = refl;
      outer = refl;
      saved = refl;
      level = refl;
      this = (refl, refl);
      later = omega arith;
    };
    lands = (leads, waits.lends, waits.kept, refl, refl, refl, refl, refl);
    before = refl;
  };
}

-- one of them is over, and the instruction waits for the next one
pub waits_next : {H : Type 0} {m : Setup H} {a b c : Moment H} {first w next : Waiting}
    {q : Position} {s' : Run H} {n' : StepsView} {host' : H} (o : Result Dynamic EvalAltResult)
    (left : Option Held) {r : Performed} → WaitsSo m a first w b → NativeOver w.lent b.run s' →
    EndsNative m (record { asked = w.asked; lent = w.lent; pos = q }) b.run b.counts b.host o left
    s' n' host' → IsAt m (frame_in b.frame b.run) q → n'.before ≡ b.counts.before →
    is_want o ≡ false → r ≡ performed.Waits → c.run.waiting ≡ Some next →
    ((takes gives : ℕ) (targets : List ℕ) (h : Held) →
    LeadsTo m.program b.frame s' w.rest takes gives targets → h.read_only ≡ false →
    ImplementsOrWaits m (moment b.frame s' n' host')
    (λ m place v. rest_of h w.rest (frame_in b.frame s') m place (answer_of o) v) targets takes
    gives s'.stacks.handlers (Ok r) c) → WaitsSo m a first next c
waits_next {H = H} {m} {a} {b} {c} {first} {w} {next} {q} {s'} {n'} {host'} o left {r} was over
    ended at before want is has then =
    let waits = was.waits in
    let leads = leads_over m.program b.frame b.run s' w.lent over w.rest waits.takes waits.gives
    waits.targets waits.lends waits.leads in
    let does : WaitsAt m (moment b.frame s' n' host')
    (λ m place v. rest_of (read_write dynamic.Unit) w.rest (frame_in b.frame s') m place
    (answer_of o) v) waits.targets waits.takes waits.gives s'.stacks.handlers next c =
    waits_at next has (subst (λ (x : Performed). ImplementsOrWaits m (moment b.frame s' n' host')
    (λ m place v. rest_of (read_write dynamic.Unit) w.rest (frame_in b.frame s') m place
    (answer_of o) v) waits.targets waits.takes waits.gives s'.stacks.handlers (Ok x) c) is
    (then waits.takes waits.gives waits.targets (read_write dynamic.Unit) leads refl)) in
    let kept = kept_on b.frame b.frame c.frame b.run s' c.run (kept_over b.frame b.run s' w.lent
    (leads_inside m.program b.frame b.run w.rest waits.takes waits.gives waits.targets waits.leads)
    over) does.kept in
    record {
      waits = record {
        takes = waits.takes;
        gives = waits.gives;
        targets = waits.targets;
        leads = does.lands.0;
        lends = does.lands.1;
        kept = does.lands.2;
      };
      none = none_on b.run.receivers c.run.receivers kept.level kept.this was.none;
      later = omega (arith, was.later, kept.later);
      so = λ h takes gives targets plain first_leads.
          waits_at next has (subst (λ (x : Performed). ImplementsOrWaits m a
          (λ m place v. asking (home_of to.This) a.run first.asked first.lent
          (frame_in a.frame a.run) (rest_of h first.rest (frame_in a.frame a.run)) m place v)
          targets takes gives a.run.stacks.handlers (Ok x) c) is
          (over_on b w q s' n' host' o left waits.lends over ended at before
          (was.so h takes gives targets plain first_leads) want then));
    }

-- the natives for which an instruction waited so far: the first one, and the one for which it waits now
pub record AwaitsSo {H : Type 0} (m : Setup H) (a b : Moment H) : Type 0 where
  pub first : Waiting
  pub begins : a.run.waiting ≡ Some first
  pub now : Waiting
  pub has : b.run.waiting ≡ Some now
  pub waits : WaitsSo m a first now b

-- it waits for this one now, where the run has it
pub waits_for : {H : Type 0} {m : Setup H} {a b : Moment H} (so : AwaitsSo m a b) (w : Waiting) →
    b.run.waiting ≡ Some w → WaitsSo m a so.first w b
waits_for {m = m} {a} {b} so w has = subst Waits (sym so.has ∙ has) so.waits where
  Waits : Option Waiting → Type 0
  Waits None = Unit {0}
  Waits (Some x) = WaitsSo m a so.first x b

-- one of them is over, and the run has the next one
pub next_awaits : {H : Type 0} {m : Setup H} {a b c : Moment H} {first w : Waiting}
    {q : Position} {s' : Run H} {n' : StepsView} {host' : H} (o : Result Dynamic EvalAltResult)
    (left : Option Held) {r : Performed} → a.run.waiting ≡ Some first → WaitsSo m a first w b →
    NativeOver w.lent b.run s' →
    EndsNative m (record { asked = w.asked; lent = w.lent; pos = q }) b.run b.counts b.host o left
    s' n' host' → IsAt m (frame_in b.frame b.run) q → n'.before ≡ b.counts.before →
    is_want o ≡ false → r ≡ performed.Waits →
    ((takes gives : ℕ) (targets : List ℕ) (h : Held) →
    LeadsTo m.program b.frame s' w.rest takes gives targets → h.read_only ≡ false →
    ImplementsOrWaits m (moment b.frame s' n' host')
    (λ m place v. rest_of h w.rest (frame_in b.frame s') m place (answer_of o) v) targets takes
    gives s'.stacks.handlers (Ok r) c) → AwaitsSo m a c
next_awaits {H = H} {m} {a} {b} {c} {first} {w} {q} {s'} {n'} {host'} o left {r} begins was over
    ended at before want is then =
    let waits = was.waits in
    let leads = leads_over m.program b.frame b.run s' w.lent over w.rest waits.takes waits.gives
    waits.targets waits.lends waits.leads in
    let does : ImplementsOrWaits m (moment b.frame s' n' host')
    (λ m place v. rest_of (read_write dynamic.Unit) w.rest (frame_in b.frame s') m place
    (answer_of o) v) waits.targets waits.takes waits.gives s'.stacks.handlers
    (Ok performed.Waits) c =
    subst (λ (x : Performed). ImplementsOrWaits m (moment b.frame s' n' host')
    (λ m place v. rest_of (read_write dynamic.Unit) w.rest (frame_in b.frame s') m place
    (answer_of o) v) waits.targets waits.takes waits.gives s'.stacks.handlers (Ok x) c) is
    (then waits.takes waits.gives waits.targets (read_write dynamic.Unit) leads refl) in
    record {
      first = first;
      begins = begins;
      now = does.lands.0;
      has = does.lands.1;
      waits = waits_next o left was over ended at before want is does.lands.1 then;
    }

-- and it waits less often than before
pub less_awaits : {H : Type 0} {m : Setup H} {a b c : Moment H} {first w : Waiting} {s' : Run H}
    {n' : StepsView} {host' : H} (o : Result Dynamic EvalAltResult) {r : Performed} →
    b.run.waiting ≡ Some w → WaitsSo m a first w b → NativeOver w.lent b.run s' →
    r ≡ performed.Waits →
    ((takes gives : ℕ) (targets : List ℕ) (h : Held) →
    LeadsTo m.program b.frame s' w.rest takes gives targets → h.read_only ≡ false →
    ImplementsOrWaits m (moment b.frame s' n' host')
    (λ m place v. rest_of h w.rest (frame_in b.frame s') m place (answer_of o) v) targets takes
    gives s'.stacks.handlers (Ok r) c) → WaitsLess w.rest (Ok r) c.run.waiting →
    awaits_left c.run.waiting < awaits_left b.run.waiting
less_awaits {H = H} {m} {a} {b} {c} {first} {w} {s'} {n'} {host'} o {r} has was over is then less =
    let waits = was.waits in
    let leads = leads_over m.program b.frame b.run s' w.lent over w.rest waits.takes waits.gives
    waits.targets waits.lends waits.leads in
    let does : ImplementsOrWaits m (moment b.frame s' n' host')
    (λ m place v. rest_of (read_write dynamic.Unit) w.rest (frame_in b.frame s') m place
    (answer_of o) v) waits.targets waits.takes waits.gives s'.stacks.handlers
    (Ok performed.Waits) c =
    subst (λ (x : Performed). ImplementsOrWaits m (moment b.frame s' n' host')
    (λ m place v. rest_of (read_write dynamic.Unit) w.rest (frame_in b.frame s') m place
    (answer_of o) v) waits.targets waits.takes waits.gives s'.stacks.handlers (Ok x) c) is
    (then waits.takes waits.gives waits.targets (read_write dynamic.Unit) leads refl) in
    let next = does.lands.0 in
    let fewer : waits_left next.rest < waits_left w.rest =
    of_some (λ (x : Waiting). waits_left x.rest < waits_left w.rest) does.lands.1
    (subst (λ (x : Performed). WaitsLess w.rest (Ok x) c.run.waiting) is less) in
    subst (λ (x : Option Waiting). awaits_left x < awaits_left b.run.waiting) (sym does.lands.1)
    (subst (λ (x : Option Waiting). waits_left next.rest < awaits_left x) (sym has) fewer)
