-- The host hears what came of the call that it asked for.
use Rattle.std.proofs.Common.{◌≡◌, ◌+◌, ℕ, List, Option, Some, None, Bool, true, false, nat_eq, refl}
use Rattle.std.proofs.lemmas.Bool.{eqb-false}
use Rattle.grain_fault.specs.Problems.{NoMemory}
use Rattle.grain_host.specs.Law.{Outcome, Reply}
use Rattle.grain_means.specs.Worlds.{Callback, End, Receiver, Setup, World}
use Rattle.grain_means.specs.Worlds as worlds
use Rattle.grain_means.specs.Rules.{cells_with, is_stop, lent_held, receiver_rewritten, roots_with, scope_with, told, trace_kept, went_on, with_token, without_token}

same_token : (token : ℕ) → nat_eq token token ≡ true
same_token token = at (nat_eq token token) refl where
  at : (b : Bool) → nat_eq token token ≡ b → nat_eq token token ≡ true
  at true e = e
  at false e = absurd (eqb-false token token e refl)

-- a token that was given last is taken back
taken_back : (token : ℕ) (tokens : Option (List ℕ)) →
    without_token token (with_token token tokens) ≡ tokens
taken_back token None = refl
taken_back token (Some ts) = rw (same_token token) refl

module _ {S : Type 0} (m : Setup S) (c : Callback) (o : Outcome) (w : World S) where
  -- the world while the token is out
  abbrev pub out_there : World S
  out_there = record w { tokens = with_token c.token w.tokens }

  -- memory is out before the host hears of it
  pub told_out : is_stop m.stop w.passed ≡ true → told m c o out_there
      ≡ End (worlds.Failed NoMemory) (record w {
        host = m.law.forget_after w.host c.token;
        cells = cells_with c.receiver w.cells;
      })
  told_out halts = rw (halts, taken_back c.token w.tokens) refl

  -- the host heard of it, answered this, and left the receiver so
  pub told_so : (said : Reply) (r : Option Receiver) → is_stop m.stop w.passed ≡ false →
      is_stop m.stop (w.passed + 1) ≡ false →
      said ≡ m.law.resume_reply w.host c.token o (lent_held c.receiver) →
      r ≡ receiver_rewritten m.law w.host c.token o c.receiver → told m c o out_there
      ≡ went_on m (record c { receiver = r }) said (record w {
        host = m.law.resume_after w.host c.token o (lent_held c.receiver);
        scope = scope_with r w.scope;
        roots = roots_with r w.roots;
        trace = trace_kept said w.trace;
        passed = w.passed + 1 + 1;
      })
  told_so said r first second says is =
      rw (first, second, taken_back c.token w.tokens, says, is) refl
