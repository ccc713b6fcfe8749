-- Stretches of a run that something follows, and that begin while a native waits.
use Rattle.std.proofs.Common.{◌≡◌, ℕ, Option, Bool, false, refl, arith}
use Rattle.grain_means.specs.Worlds.{Act, Answer, Callback, Go, InHost, Place, Setup, Then, World}
use Rattle.grain_means.specs.Ends.{Ends, joined, went}
use Rattle.grain_means.specs.Rules.{calling_back, with_token}
use Rattle.grain_means.specs.Simulation.{Computation, Environment, LocalState, Simulates, stopped, world}
use Rattle.grain_means.specs.lemmas.Stretches.{before, compose, same}

-- what follows a run follows one that ends as it does
further : {S : Type 0} (m : Setup S) (first second : Act S) (rest : Answer → World S → Act S) →
    ((a : Answer) (w : World S) → Ends m second a w → Ends m first a w) → (a : Answer)
    (w : World S) → Ends m (Then second rest) a w → Ends m (Then first rest) a w
further m first second rest leads a w (joined {b = b} {w = v} one two) =
    joined (leads b v one) two

-- a call that a native asked for is the next thing that is done
called_next : {S : Type 0} (m : Setup S) (c : Callback) (w v : World S)
    (rest : Answer → World S → Act S) (a : Answer) → Ends m (Then (calling_back m c w) rest) a v →
    Ends m (Then (Go (InHost c) w) rest) a v
called_next m c w v rest a (joined one two) = joined (went one) two

module _ {S : Type 0} {m : Setup S} {old new : LocalState S} {start now : Computation S}
    {out : Bool} where
  -- what follows the second run follows the first one
  pub followed : (rest : Setup S → Option Place → Answer → World S → Act S) →
      Simulates m old start out new now →
      Simulates m old (λ n place w. Then (start n place w) (rest n place)) out new
      (λ n place w. Then (now n place w) (rest n place))
  followed rest h = record {
    order = h.order;
    leads = λ stop clear halts u place bound.
        let k = h.leads stop clear halts u place bound in (
          k.0,
          further (stopped m stop) (start (stopped m stop) place (world old u)) _
              (rest (stopped m stop) place) k.1,
        );
  }

  -- the same while a token is out
  pub with_token_out : (token : ℕ) → Simulates m old start out new now →
      Simulates m old (λ n place w. start n place (record w { tokens = with_token token w.tokens }))
      out new (λ n place w. now n place (record w { tokens = with_token token w.tokens }))
  with_token_out token h = record {
    order = h.order;
    leads = λ stop clear halts u place bound.
        h.leads stop clear halts (record u { tokens = with_token token u.tokens }) place bound;
  }

  -- a run that is this one in each environment
  pub alike : (first : Computation S) →
      ((stop : Option ℕ) (u : Environment) (place : Option Place) →
      first (stopped m stop) place (world old u) ≡ start (stopped m stop) place (world old u)) →
      Simulates m old start out new now → Simulates m old first out new now
  alike first equal h = compose {one = false} (same (record {
    this = refl;
    order = omega arith;
    equal = λ stop clear halts u place. equal stop u place;
  })) h tt

-- the call that a native asked for, and what follows it
pub called_so : {S : Type 0} {m : Setup S} {old new : LocalState S} {now : Computation S}
    {out : Bool} (token : ℕ) (c : Option Place → Callback)
    (rest : Setup S → Option Place → Answer → World S → Act S) →
    Simulates m old (λ n place w. calling_back n (c place) w) out new now →
    Simulates m old
    (λ n place w. Then (Go (InHost (c place)) (record w { tokens = with_token token w.tokens }))
    (rest n place)) out new
    (λ n place w. Then (now n place (record w { tokens = with_token token w.tokens })) (rest n place))
called_so token c rest h =
    before (λ n place w v a run.
    called_next n (c place) (record w { tokens = with_token token w.tokens }) v (rest n place) a run)
    (followed rest (with_token_out token h))
