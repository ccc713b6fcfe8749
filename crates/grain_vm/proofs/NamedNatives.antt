-- A call of a name that no function has: the native of that name is called, and goes on until it is over.
use Rattle.std.proofs.Common.{◌≡◌, ◌∙◌, ◌≤◌, ◌+◌, ◌-◌, ℕ, List, [], ◌∷◌, Option, Some, None, IfSome, Bool, true, false, Result, Ok, Err, inl, inr, length, nat_lt, refl, ap, subst, arith}
use Rattle.std.specs.Prelude.{if◌then◌else◌}
use Rattle.grain_value.specs.Cells.{flat}
use Rattle.grain_value.specs.Looking.{pointer_of}
use Rattle.grain_value.specs.Operands.{arguments, under}
use Rattle.grain_value.specs.declared.values.Dynamic.{Dynamic}
use Rattle.grain_value.specs.declared.values.FnPtr.{FnPtr}
use Rattle.grain_fault.specs.Problems.{NoMemory}
use Rattle.grain_program.specs.declared.code.functions.Function.{Function}
use Rattle.grain_value.specs.declared.memory.OutOfMemory.{OutOfMemory}
use Rattle.grain_value.specs.declared.values.Held.{Held}
use Rattle.grain_host.specs.Law.{Law}
use Rattle.grain_program.specs.View.{View, name_of}
use Rattle.grain_program.specs.declared.code.instruction_set.Op.TheVariants as op
use Rattle.grain_global.specs.StepsView.{StepsView}
use Rattle.grain_global.specs.declared.engines.Engine.{Engine}
use Rattle.grain_stack.specs.declared.handlers.Handler.{Handler}
use Rattle.grain_means.specs.Worlds.{is_stop, Frame, Setup, World}
use Rattle.grain_means.specs.Means.{setup}
use Rattle.grain_means.specs.Rules.{all_or_race, call_function, call_pointer, enter_function, flat_all, flat_or_race, function_by_name, function_found, leave_by_fault, native, operand_under, pointer_called, pushed, raised, spread}
use Rattle.grain_means.specs.Simulation.{Computation, stopped, world}
use Rattle.grain_means.specs.lemmas.Stretches.{compose}
use Rattle.grain_frame.specs.Abstraction.{ContinuesAt, ImplementsBound, KeepsFrame, Moment, PerformsBound, Progresses, abstraction, frame_in, is_out, moment}
use Rattle.grain_frame.specs.Targets.{home_of}
use Rattle.grain_frame.specs.Waiting.{ImplementsOrWaits, LeadsTo, asking, rest_of}
use Rattle.grain_frame.specs.declared.activations.Activation.{Activation}
use Rattle.grain_frame.specs.declared.runs.Progress.{Progress}
use Rattle.grain_frame.specs.declared.runs.Progress.TheVariants as progress
use Rattle.grain_frame.specs.declared.runs.Run.{Run}
use Rattle.grain_frame.specs.declared.targets.Target.TheVariants as to
use Rattle.grain_frame.specs.declared.waiting.Performed.{Performed}
use Rattle.grain_frame.specs.declared.waiting.Performed.TheVariants as performed
use Rattle.grain_frame.specs.lemmas.Bound.{as_bound, bound_as}
use Rattle.grain_frame.specs.lemmas.Failing.{native_stops, wants_memory}
use Rattle.grain_vm.specs.Asks.{Awaits}
use Rattle.grain_vm.specs.Finding.{Finds}
use Rattle.grain_vm.specs.Methods.{NoneAbove}
use Rattle.grain_vm.specs.declared.finding.Found.{Found}
use Rattle.grain_vm.proofs.Awaiting.{of_some, waits_at}
use Rattle.grain_frame.specs.lemmas.Turns.{kept_bound}
use Rattle.grain_vm.proofs.Turns.{none_on}

-- ---- an instruction that waits, and then goes on

-- one stretch after another that keep the frame
kept_through : {H : Type 0} (f g h : Activation) (s t u : Run H) → KeepsFrame f s g t →
    KeepsFrame g t h u → KeepsFrame f s h u
kept_through f g h s t u one two = record {
  chunk = two.chunk ∙ one.chunk;
  base = two.base ∙ one.base;
  scope = omega (arith, two.scope, one.base);
  room = two.room ∙ one.room;
  noted = two.noted ∙ one.noted;
  outer = two.outer ∙ one.outer;
  saved = two.saved ∙ one.saved;
  level = two.level ∙ one.level;
  this = kept_bound s.receivers t.receivers u.receivers one.level one.this two.this;
  later = omega (arith, one.later, two.later);
}

progresses_through : {H : Type 0} (engine : Engine) (s t s' : Run H) (f g f' : Activation) →
    s.count ≤ t.count → g ≡ f → Progresses engine t g s' f' → Progresses engine s f s' f'
progresses_through engine s t s' f g f' later same (inl taken) =
    inl (omega (arith, taken.0, later), omega (arith, taken.1, later))
progresses_through engine s t s' f g f' later same (inr further) =
    inr (
      omega (arith, further.0, later),
      omega (arith, further.1, ap (λ (a : Activation). a.address) same),
    )

-- where it led from where it waited
lands_through : {H : Type 0} (engine : Engine) (s t s' : Run H) (f g f' : Activation) (ts : List ℕ)
    (takes gives : ℕ) (hs : List Handler) (r : Result Progress OutOfMemory) → s.count ≤ t.count →
    g ≡ f → t.stacks.operands ≡ s.stacks.operands → t.stacks.handlers ≡ hs →
    t.stacks.handlers ≡ s.stacks.handlers → t.stacks.cursors ≡ s.stacks.cursors →
    ContinuesAt engine t g s' f' ts takes gives t.stacks.handlers r →
    ContinuesAt engine s f s' f' ts takes gives hs r
lands_through engine s t s' f g f' ts takes gives hs (Ok progress.Continues) later same ops become
    stay cursors l = (
      l.0,
      l.1 ∙ ap (λ (os : List Held). length os - takes + gives) ops,
      l.2 ∙ become,
      progresses_through engine s t s' f g f' later same l.3,
      l.4 ∙ cursors,
    )
lands_through engine s t s' f g f' ts takes gives hs (Ok progress.Returned) later same ops become
    stay cursors l = tt
lands_through engine s t s' f g f' ts takes gives hs (Ok progress.Failed) later same ops become
    stay cursors l = (
      omega (arith, l.0, ap (λ (os : List Held). length os) ops),
      l.1 ∙ stay,
      l.2 ∙ cursors,
    )
lands_through engine s t s' f g f' ts takes gives hs (Err e) later same ops become stay cursors l = tt

module _ {H : Type 0} {m : Setup H} {a b : Moment H} {rule : Computation H} {ts : List ℕ}
    {takes gives : ℕ} {hs : List Handler}
    (waits : ImplementsOrWaits m a rule ts takes gives hs (Ok performed.Waits) b) where
  -- it can go on
  pub is_waiting : Awaits m.program b.frame b.run
  is_waiting = (
    waits.lands.0,
    waits.lands.1,
    record {
      takes = takes;
      gives = gives;
      targets = ts;
      leads = waits.lands.2;
      lends = waits.lands.3;
      kept = waits.lands.4;
    },
  )

  pub waits_unbound : NoneAbove a.run.level a.run.receivers → NoneAbove b.run.level b.run.receivers
  waits_unbound none = none_on a.run.receivers b.run.receivers waits.kept.level waits.kept.this none

  -- and it went on, until it was done
  pub waited : {c : Moment H} (r : Result Progress OutOfMemory) →
      IfSome b.run.waiting (λ w. (h : Held) (takes gives : ℕ) (targets : List ℕ) →
      h.read_only ≡ false → LeadsTo m.program b.frame b.run w.rest takes gives targets →
      ImplementsBound m b
      (λ m place v. asking (home_of to.This) b.run w.asked w.lent (frame_in b.frame b.run)
      (rest_of h w.rest (frame_in b.frame b.run)) m place v) targets takes gives b.run.stacks.handlers
      r c) → ImplementsBound m a rule ts takes gives hs r c
  waited {c} r goes =
      let at = waits_at waits.lands.0 waits.lands.1 waits in
      let did = (of_some _ waits.lands.1 goes) at.held takes gives ts at.plain at.lands.0 in
      record {
        same = compose {one = false} at.same did.same tt;
        kept = kept_through a.frame b.frame c.frame a.run b.run c.run waits.kept did.kept;
        lands = lands_through m.engine a.run b.run c.run a.frame b.frame c.frame ts takes gives hs r
            waits.kept.later at.lands.6 at.lands.3 at.lands.4 at.lands.5 at.lands.7 did.lands;
        before = did.before ∙ waits.before;
      }

-- what came of it is this
pub it_waits : {H : Type 0} {m : Setup H} {a b : Moment H} {rule : Computation H} {ts : List ℕ}
    {takes gives : ℕ} {hs : List Handler} (x y : Performed) → x ≡ y →
    ImplementsOrWaits m a rule ts takes gives hs (Ok x) b →
    ImplementsOrWaits m a rule ts takes gives hs (Ok y) b
it_waits {m = m} {a} {b} {rule} {ts} {takes} {gives} {hs} x y is did =
    subst (λ (z : Performed). ImplementsOrWaits m a rule ts takes gives hs (Ok z) b) is did

-- it was done at once
pub it_led : {H : Type 0} {m : Setup H} {a b : Moment H} {rule : Computation H} {ts : List ℕ}
    {takes gives : ℕ} {hs : List Handler} (p : Progress) →
    ImplementsOrWaits m a rule ts takes gives hs (Ok (performed.Leads p)) b →
    ImplementsBound m a rule ts takes gives hs (Ok p) b
it_led p did =
    record { same = did.same; kept = did.kept; lands = did.lands; before = did.before }

-- or memory ran out
pub it_ended : {H : Type 0} {m : Setup H} {a b : Moment H} {rule : Computation H} {ts : List ℕ}
    {takes gives : ℕ} {hs : List Handler} (e : OutOfMemory) (r : Result Progress OutOfMemory) →
    is_out r ≡ true → ImplementsOrWaits m a rule ts takes gives hs (Err e) b →
    ImplementsBound m a rule ts takes gives hs r b
it_ended e (Ok y) out did = absurd cc
it_ended e (Err y) out did =
    record { same = did.same; kept = did.kept; lands = tt; before = did.before }

-- ---- the instruction

-- `call` of a name that no function has was done
pub named_done : {H : Type 0} (law : Law H) (p : View) (engine : Engine) (f f' : Activation)
    (s s' : Run H) (n n' : StepsView) (name count next : ℕ) (host host' : H)
    (r : Result Progress OutOfMemory) (word : List ℕ) (k : ℕ) → function_found p name count ≡ None →
    word ≡ name_of p name → k ≡ count → ImplementsBound (setup law p engine) (moment f s n host)
    (λ m place w. call_function m None word k (frame_in f s place) next w) (next ∷ []) k 1
    s.stacks.handlers r (moment f' s' n' host') →
    PerformsBound (setup law p engine) (moment f s n host) (op.Call name count) next r
    (moment f' s' n' host')
named_done law p engine f f' s s' n n' name count next host host' r word k none named counted did =
    bound_as
    (subst (λ (ws : List ℕ). ImplementsBound (setup law p engine) (moment f s n host)
    (λ m place w. call_function m None ws count (frame_in f s place) next w) (next ∷ []) count 1
    s.stacks.handlers r (moment f' s' n' host')) named
    (subst (λ (j : ℕ). ImplementsBound (setup law p engine) (moment f s n host)
    (λ m place w. call_function m None word j (frame_in f s place) next w) (next ∷ []) j 1
    s.stacks.handlers r (moment f' s' n' host')) counted did))
    (λ stop u place bound. rw none refl)

-- ---- memory is out before a pointer is called

same_both : {A : Type 0} (b : Bool) (x : A) → (if b then x else x) ≡ x
same_both true x = refl
same_both false x = refl

module _ {S : Type 0} (m : Setup S) (w : World S) (halts : is_stop m.stop w.passed ≡ true) where
  entered_stops : (g : Function) (count : ℕ) (f : Frame) (next : ℕ) →
      enter_function m g count f next w ≡ leave_by_fault m f NoMemory w
  entered_stops g count f next =
      rw halts (same_both (nat_lt w.count m.engine.limits.operations) (leave_by_fault m f NoMemory w))

  called_stops : (o : Option Function) (name : List ℕ) (count : ℕ) (f : Frame) (next : ℕ) →
      call_function m o name count f next w ≡ leave_by_fault m f NoMemory w
  called_stops None name count f next = by (flat_all w.cells (arguments count f.operands)) where
    by : (hs : Option (List Held)) → all_or_race m hs f w (λ args. native m name None args f w
        (λ v w1. pushed m f next (under count f.operands) v w1) (raised m f))
        ≡ leave_by_fault m f NoMemory w
    by None = rw halts refl
    by (Some args) =
        native_stops m name None args f w (λ v w1. pushed m f next (under count f.operands) v w1)
        (raised m f) halts (λ y. rw halts refl)
  called_stops (Some g) name count f next = entered_stops g count f next

  named_stops : (o : Option FnPtr) (v : Dynamic) (n next : ℕ) (f : Frame) →
      pointer_called m o v n next f w ≡ leave_by_fault m f NoMemory w
  named_stops None v n next f = rw halts refl
  named_stops (Some p) v n next f =
      called_stops (function_by_name m.program p.name (length p.curry + n)) p.name (length p.curry + n)
      (spread p n f) next

  pub pointed_stops : (n next : ℕ) (f : Frame) →
      call_pointer m n next f w ≡ leave_by_fault m f NoMemory w
  pointed_stops n next f = by (flat w.cells (operand_under n f.operands).value) where
    by : (o : Option Dynamic) →
        flat_or_race m o [] f w (λ v. pointer_called m (pointer_of v) v n next f w)
        ≡ leave_by_fault m f NoMemory w
    by None = rw halts refl
    by (Some v) = named_stops (pointer_of v) v n next f

pub pointed_out : {H : Type 0} (law : Law H) (p : View) (engine : Engine) (f : Activation) (s : Run H)
    (n : StepsView) (host : H) (count next : ℕ) (r : Result Found OutOfMemory) → is_out r ≡ true →
    f.base ≤ length s.scope →
    Finds (setup law p engine) (moment f s n host) (op.CallFnPtr count) next r (moment f s n host)
pointed_out law p engine f s n host count next (Ok y) out inside = absurd cc
pointed_out law p engine f s n host count next (Err y) out inside =
    as_bound (wants_memory law p engine f s n host (Err y) refl inside
    (λ stop u place halts. pointed_stops (stopped (setup law p engine) stop)
    (world (abstraction s n host) u) halts count next (frame_in f s place)))
