-- Instructions that lead somewhere, or that wait for a native.
use Rattle.std.proofs.Common.{◌≡◌, ◌∙◌, ◌≤◌, ℕ, List, Option, Some, None, true, false, Result, Ok, Err, length, refl, sym, subst, arith}
use Rattle.grain_value.specs.declared.values.Dynamic.TheVariants as dynamic
use Rattle.grain_value.specs.declared.values.Held.{Held}
use Rattle.grain_value.specs.declared.memory.OutOfMemory.{OutOfMemory}
use Rattle.grain_value.specs.Operands.{read_write}
use Rattle.grain_program.specs.View.{View}
use Rattle.grain_stack.specs.declared.handlers.Handler.{Handler}
use Rattle.grain_host.specs.Law.{Law}
use Rattle.grain_global.specs.declared.engines.Engine.{Engine}
use Rattle.grain_global.specs.StepsView.{StepsView}
use Rattle.grain_means.specs.Worlds.{Place, Setup}
use Rattle.grain_means.specs.Means.{setup}
use Rattle.grain_means.specs.Simulation.{Binds, Computation, Environment, SimulatesExactly, stopped, world}
use Rattle.grain_means.specs.lemmas.Stretches.{compose, same}
use Rattle.grain_frame.specs.Abstraction.{Implements, ImplementsBound, Moment, abstraction, frame_in, is_out, moment, native_continuation, this_of}
use Rattle.grain_frame.specs.Rests.{WaitsLess}
use Rattle.grain_frame.specs.Waiting.{ImplementsOrWaits, LeadsTo, Lends, fault_rest, performed_of, value_rest}
use Rattle.grain_frame.specs.declared.activations.Activation.{Activation}
use Rattle.grain_frame.specs.declared.native_calls.Asked.{Asked}
use Rattle.grain_frame.specs.declared.native_calls.NativeEnd.TheVariants as native_end
use Rattle.grain_frame.specs.declared.runs.Progress.{Progress}
use Rattle.grain_frame.specs.declared.runs.Run.{Run}
use Rattle.grain_frame.specs.declared.waiting.Loan.TheVariants as have
use Rattle.grain_frame.specs.declared.waiting.Performed.{Performed}
use Rattle.grain_frame.specs.declared.waiting.Performed.TheVariants as performed
use Rattle.grain_frame.specs.declared.waiting.Rest.{Rest}
use Rattle.grain_frame.specs.declared.waiting.Waiting.{Waiting}
use Rattle.grain_frame.specs.lemmas.Awaited.{awaits}
use Rattle.grain_frame.specs.lemmas.Bound.{as_bound, reading}

module _ {H : Type 0} {m : Setup H} {a b : Moment H} {ts : List ℕ} {takes gives : ℕ}
    {hs : List Handler} where
  -- one that is done leads there
  pub led : {rule : Computation H} (r : Result Progress OutOfMemory) →
      ImplementsBound m a rule ts takes gives hs r b →
      ImplementsOrWaits m a rule ts takes gives hs (performed_of r) b
  led (Ok p) does = record {
    held = read_write dynamic.Unit;
    plain = refl;
    same = does.same;
    kept = does.kept;
    lands = does.lands;
    before = does.before;
  }
  led (Err e) does = record {
    held = read_write dynamic.Unit;
    plain = refl;
    same = does.same;
    kept = does.kept;
    lands = tt;
    before = does.before;
  }

  -- the same of what is known by an equation
  pub led_so : {rule : Computation H} (r : Result Progress OutOfMemory)
      (q : Result Performed OutOfMemory) → q ≡ performed_of r →
      ImplementsBound m a rule ts takes gives hs r b →
      ImplementsOrWaits m a rule ts takes gives hs q b
  led_so {rule} r q is does =
      subst (λ (x : Result Performed OutOfMemory). ImplementsOrWaits m a rule ts takes gives hs x b)
      (sym is) (led r does)

  pub led_exactly : {rule : Computation H} (r : Result Progress OutOfMemory)
      (q : Result Performed OutOfMemory) → q ≡ performed_of r →
      Implements m a rule ts takes gives hs r b →
      ImplementsOrWaits m a rule ts takes gives hs q b
  led_exactly r q is does = led_so r q is (as_bound does)

  -- memory ran out
  pub led_out : {rule : Computation H} (e : OutOfMemory) (q : Result Performed OutOfMemory) →
      is_out q ≡ true → ImplementsBound m a rule ts takes gives hs (Err e) b →
      ImplementsOrWaits m a rule ts takes gives hs q b
  led_out e (Ok y) out does = absurd cc
  led_out e (Err y) out does = record {
    held = read_write dynamic.Unit;
    plain = refl;
    same = does.same;
    kept = does.kept;
    lands = tt;
    before = does.before;
  }

  -- a rule that is this one where `this` is bound
  pub waits_as : {first rule : Computation H} {r : Result Performed OutOfMemory} →
      ImplementsOrWaits m a first ts takes gives hs r b →
      ((stop : Option ℕ) (u : Environment) (place : Option Place) →
      Binds u.roots place (this_of a.run) →
      rule (stopped m stop) place (world (abstraction a.run a.counts a.host) u)
      ≡ first (stopped m stop) place (world (abstraction a.run a.counts a.host) u)) →
      ImplementsOrWaits m a rule ts takes gives hs r b
  waits_as does alike = record {
    held = does.held;
    plain = does.plain;
    same = compose {one = false}
        (reading refl (omega arith) (λ stop clear halts u place bound. alike stop u place bound))
        does.same tt;
    kept = does.kept;
    lands = does.lands;
    before = does.before;
  }

-- one that is done waits for nothing more
pub less_led : (x : Rest) (r : Result Progress OutOfMemory) (q : Result Performed OutOfMemory)
    (y : Option Waiting) → q ≡ performed_of r → WaitsLess x q y
less_led x (Ok p) q y is =
    subst (λ (z : Result Performed OutOfMemory). WaitsLess x z y) (sym is) tt
less_led x (Err e) q y is =
    subst (λ (z : Result Performed OutOfMemory). WaitsLess x z y) (sym is) tt

-- nor does one where memory ran out
pub less_out : (x : Rest) (q : Result Performed OutOfMemory) (y : Option Waiting) →
    is_out q ≡ true → WaitsLess x q y
less_out x (Ok z) y out = absurd cc
less_out x (Err e) y out = tt

-- a native that is lent nothing asks for a call
pub native_waits : {H : Type 0} (law : Law H) (p : View) (engine : Engine) (f : Activation)
    (s t : Run H) (n k : StepsView) (host mid : H) {rule : Computation H} {ts : List ℕ}
    {takes gives : ℕ} → t ≡ s → k.before ≡ n.before → f.base ≤ length s.scope → (g : Held) →
    g.read_only ≡ false → (c : Asked) (r : Rest) → Lends r have.Nothing →
    LeadsTo p f s r takes gives ts →
    SimulatesExactly (setup law p engine) (abstraction s n host) rule false (abstraction t k mid)
    (native_continuation (Ok (native_end.Asks c)) (λ place. None) (frame_in f s)
    (λ m place v w. value_rest r (frame_in f s) m place v w)
    (λ m place x w. fault_rest g r (frame_in f s) m place x w)) →
    (b : Run H) (q : Performed) →
    b ≡ record t { waiting = Some (record { asked = c; lent = have.Nothing; rest = r }) } →
    q ≡ performed.Waits →
    ImplementsOrWaits (setup law p engine) (moment f s n host) rule ts takes gives
    s.stacks.handlers (Ok q) (moment f b k mid)
native_waits {H = H} law p engine f s t n k host mid {rule} {ts} {takes} {gives} run before inside
    g plain c r lends leads does b q is waits =
    rw (is, waits) (subst (λ (x : Run H). Asks x → Waits x) (sym run) at does) where
      w : Waiting
      w = record { asked = c; lent = have.Nothing; rest = r }

      Asks : Run H → Type 0
      Asks q = SimulatesExactly (setup law p engine) (abstraction s n host) rule false
          (abstraction q k mid)
          (native_continuation (Ok (native_end.Asks c)) (λ place. None) (frame_in f s)
          (λ m place v w. value_rest r (frame_in f s) m place v w)
          (λ m place x w. fault_rest g r (frame_in f s) m place x w))

      Waits : Run H → Type 0
      Waits x = ImplementsOrWaits (setup law p engine) (moment f s n host) rule ts takes gives
          s.stacks.handlers (Ok performed.Waits) (moment f (record x { waiting = Some w }) k mid)

      at : Asks s → Waits s
      at does = record {
        held = g;
        plain = plain;
        same = same (record {
          this = does.this;
          order = does.order;
          equal = λ stop clear halts u place. does.equal stop clear halts u place ∙ refl;
        });
        kept = record {
          chunk = refl;
          base = refl;
          scope = inside;
          room = refl;
          noted = refl;
          outer = refl;
          saved = refl;
          level = refl;
          this = (refl, refl);
          later = omega arith;
        };
        lands = (
          w,
          refl,
          awaits s (Some w) p f r takes gives ts leads,
          lends,
          tt,
          refl,
          refl,
          refl,
          refl,
          refl,
        );
        before = before;
      }
