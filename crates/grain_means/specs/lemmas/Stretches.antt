-- How stretches of code are put together: all that is known of `Simulates`. No other file looks
-- into it.
use Rattle.std.proofs.Common.{◌≡◌, ◌∙◌, ◌<◌, ◌≤◌, ℕ, List, Option, Some, None, Bool, true, false, refl, sym, subst, arith}
use Rattle.std.proofs.lemmas.Bool.Decides.{nat_tests}
use Rattle.grain_value.specs.declared.values.Held.{Held}
use Rattle.grain_means.specs.Worlds.{Act, End, Then, Answer, World, Setup, Place}
use Rattle.grain_means.specs.Rules.{is_stop}
use Rattle.grain_means.specs.Ends.{Ends, ended, joined}
use Rattle.grain_means.specs.Simulation.{LocalState, Environment, Computation, world, Binds, puts, after, stopped, Refines, NoStopWithin, StopsHere, Simulates, SimulatesExactly, StopPersists}
use Rattle.grain_means.specs.lemmas.Roots.{puts-bound, puts-twice, puts-nowhere}

clear_front : (stop : Option ℕ) (a b c : ℕ) → b ≤ c → NoStopWithin stop a c →
    NoStopWithin stop a b
clear_front stop a b c le clear k from to = clear k from (omega arith)

clear_back : (stop : Option ℕ) (a b c : ℕ) → a ≤ b → NoStopWithin stop a c → NoStopWithin stop b c
clear_back stop a b c le clear k from to = clear k (omega arith) to

halts_front : (one two : Bool) (stop : Option ℕ) (p q : ℕ) → StopPersists one p two q →
    StopsHere two stop q → StopsHere one stop p
halts_front false two stop p q c h = tt
halts_front true two stop p q c h =
    subst (λ n. is_stop stop n ≡ true) c.1 (subst (λ o. StopsHere o stop q) c.0 h)

earlier : (k b : ℕ) → k < b → is_stop (Some b) k ≡ false
earlier k b h = grind (arith, nat_tests)

here : (b : ℕ) → is_stop (Some b) b ≡ true
here b = grind (arith, nat_tests)

-- two runs that are one, where `this` stays
one_leads : {S : Type 0} (m : Setup S) (old : LocalState S) (start : Computation S)
    (new : LocalState S) (now : Computation S) → new.this ≡ old.this →
    ((u : Environment) (place : Option Place) → start m place (world old u) ≡
    now m place (world new u)) → Refines m old start new now
one_leads m old start new now this equal u place bound =
    let same : puts u.roots place new.this ≡ u.roots =
    rw this (puts-bound u.roots place old.this bound) in
    (rw same (rw this bound), λ a w run. rw (equal u place) (rw same at run))

two_lead : {S : Type 0} (m : Setup S) (old : LocalState S) (start : Computation S)
    (mid : LocalState S) (via : Computation S) (new : LocalState S) (now : Computation S) →
    Refines m old start mid via → Refines m mid via new now → Refines m old start new now
two_lead m old start mid via new now h k u place bound =
    let first = h u place bound in
    let second = k (after u place mid.this) place first.0 in
    let same = puts-twice u.roots place old.this mid.this new.this bound first.0 second.0 in (
      subst (λ (roots : List Held). Binds roots place new.this) same second.0,
      λ a w run.
          first.1 a w
          (second.1 a w
          (subst (λ (roots : List Held).
          Ends m (now m place (world new (record u { roots = roots }))) a w) (sym same) run)),
    )

module _ {S : Type 0} {m : Setup S} where
  -- nothing was done
  pub stays : {old : LocalState S} {start : Computation S} → Simulates m old start false old start
  stays {old} {start} =
      record {
        order = omega arith;
        leads = λ stop clear halts. one_leads (stopped m stop) old start
            old start refl (λ u place. refl);
      }

  -- the two runs are one
  pub same : {old : LocalState S} {start : Computation S} {out : Bool} {new : LocalState S}
      {now : Computation S} → SimulatesExactly m old start out new now →
      Simulates m old start out new now
  same {old} {start} {out} {new} {now} h =
      record {
        order = h.order;
        leads = λ stop clear halts. one_leads (stopped m stop) old start new
            now h.this (h.equal stop clear halts);
      }

  -- one stretch after another
  pub compose : {old : LocalState S} {start : Computation S} {one : Bool} {mid : LocalState S}
      {via : Computation S} {two : Bool} {new : LocalState S} {now : Computation S} →
      Simulates m old start one mid via → Simulates m mid via two new now →
      StopPersists one mid.passed two new.passed → Simulates m old start two new now
  compose {old} {start} {one} {mid} {via} {two} {new} {now} h k carries = record {
    order = omega (arith, h.order, k.order);
    leads = λ stop clear halts. two_lead (stopped m stop) old start mid via new now
        (h.leads stop (clear_front stop old.passed mid.passed new.passed k.order clear)
        (halts_front one two stop mid.passed new.passed carries halts))
        (k.leads stop (clear_back stop old.passed mid.passed new.passed h.order clear) halts);
  }

  -- one exact stretch after another
  pub then_exactly : {old : LocalState S} {start : Computation S} {mid : LocalState S}
      {via : Computation S} {out : Bool} {new : LocalState S} {now : Computation S} →
      SimulatesExactly m old start false mid via → SimulatesExactly m mid via out new now →
      SimulatesExactly m old start out new now
  then_exactly {old} {start} {mid} {via} {out} {new} {now} h k = record {
    this = k.this ∙ h.this;
    order = omega (arith, h.order, k.order);
    equal = λ stop clear halts u place.
        h.equal stop (clear_front stop old.passed mid.passed new.passed k.order clear) tt u place
        ∙ k.equal stop (clear_back stop old.passed mid.passed new.passed h.order clear) halts u
        place;
  }

  -- the same where memory may be out after the first
  pub then_so : {old : LocalState S} {start : Computation S} {one : Bool} {mid : LocalState S}
      {via : Computation S} {two : Bool} {new : LocalState S} {now : Computation S} →
      SimulatesExactly m old start one mid via → SimulatesExactly m mid via two new now →
      StopPersists one mid.passed two new.passed → SimulatesExactly m old start two new now
  then_so {old} {start} {one} {mid} {via} {two} {new} {now} h k carries = record {
    this = k.this ∙ h.this;
    order = omega (arith, h.order, k.order);
    equal = λ stop clear halts u place.
        h.equal stop (clear_front stop old.passed mid.passed new.passed k.order clear)
        (halts_front one two stop mid.passed new.passed carries halts) u place
        ∙ k.equal stop (clear_back stop old.passed mid.passed new.passed h.order clear) halts u
        place;
  }

  -- a run that ends as another does
  pub before : {start first : Computation S} →
      ((n : Setup S) (place : Option Place) (w v : World S) (a : Answer) →
      Ends n (start n place w) a v → Ends n (first n place w) a v) →
      {old : LocalState S} {out : Bool} {new : LocalState S} {now : Computation S} →
      Simulates m old start out new now → Simulates m old first out new now
  before begins {old} h = record {
    order = h.order;
    leads = λ stop clear halts u place bound. let k = h.leads stop clear halts u place bound in
        (k.0, λ a w run. begins (stopped m stop) place (world old u) w a (k.1 a w run));
  }

  -- a run where there is no `this`
  pub alone : {old : LocalState S} {first : Computation S} {out : Bool} {new : LocalState S}
      {b : Answer} → old.this ≡ None → Simulates m old first out new (λ n place w. End b w) →
      Simulates m old (λ n place w. first n None w) out new (λ n place w. End b w)
  alone {old} {first} {out} {new} {b} none h = record {
    order = h.order;
    leads = λ stop clear halts u place bound. at stop clear halts u place bound;
  } where
    at : (stop : Option ℕ) → NoStopWithin stop old.passed new.passed →
        StopsHere out stop new.passed → Refines (stopped m stop) old (λ n place w. first n None w)
        new (λ n place w. End b w)
    at stop clear halts u None bound = h.leads stop clear halts u None bound
    at stop clear halts u (Some p) bound = absurd (subst (Binds u.roots (Some p)) none bound)

  -- a run that is over, and what follows it
  pub continued : {old : LocalState S} {first : Computation S} {out : Bool} {new : LocalState S}
      {b : Answer} (rest : Setup S → Option Place → Answer → World S → Act S) →
      Simulates m old first out new (λ n place w. End b w) →
      Simulates m old (λ n place w. Then (first n place w) (rest n place)) out new
      (λ n place w. rest n place b w)
  continued {b = b} rest h = record {
    order = h.order;
    leads = λ stop clear halts u place bound. let k =
        h.leads stop clear halts u place bound in (k.0, λ a w run. joined (k.1 b _ ended) run);
  }

  -- a whole run, at any stop that the code did not pass
  pub whole : {old : LocalState S} {first : Computation S} {out : Bool} {new : LocalState S}
      {b : Answer} → Simulates m old first out new (λ n place w. End b w) → old.this ≡ None →
      (stop : Option ℕ) → NoStopWithin stop old.passed new.passed → StopsHere out stop new.passed →
      (u : Environment) → Ends (stopped m stop) (first (stopped m stop) None (world old u)) b
      (world new u)
  whole {old} {out = out} {new = new} {b = b} h none stop clear halts u =
      let k = h.leads stop clear halts u None (rw none tt) in
      k.1 b (world new u) (rw (puts-nowhere u.roots new.this) ended)

-- the stop at a mark that comes later was not passed, and it is where memory is out
pub clear_before : (a b : ℕ) → NoStopWithin (Some b) a b
clear_before a b k from to = earlier k b to

pub halts_there : (out : Bool) (b : ℕ) → StopsHere out (Some b) b
halts_there false b = tt
halts_there true b = here b

pub never_clear : (a b : ℕ) → NoStopWithin None a b
never_clear a b k from to = refl

-- the same of a state and a computation that are equal to these
pub exactly : {S : Type 0} {m : Setup S} {old mid : LocalState S} {first start : Computation S}
    {out : Bool} {new : LocalState S} {now : Computation S} → mid ≡ old →
    ((stop : Option ℕ) (u : Environment) (place : Option Place) →
    first (stopped m stop) place (world old u) ≡ start (stopped m stop) place (world old u)) →
    SimulatesExactly m mid start out new now → SimulatesExactly m old first out new now
exactly {S = S} {m = m} {old} {mid} {first} {start} {out} {new} {now} e alike h =
    let here : SimulatesExactly m old start out new now =
    subst (λ (q : LocalState S). SimulatesExactly m q start out new now) e h in
    record {
      this = here.this;
      order = here.order;
      equal = λ stop clear halts u place.
          alike stop u place ∙ here.equal stop clear halts u place;
    }
