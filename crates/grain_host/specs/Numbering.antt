-- The host in memory gives each token once: by numbers, in order.
use Rattle.std.specs.Prelude.{ℕ, ◌≡◌, ◌<◌, ◌+◌, List, [], ◌∷◌, Option}
use Rattle.grain_value.specs.Tree.{Tree}
use Rattle.grain_value.specs.declared.values.Held.{Held}
use Rattle.grain_host.specs.Law.{Reply, Done, Failed, Ask, Outcome}
use Rattle.grain_host.specs.Tables.{table_law}
use Rattle.grain_host.specs.declared.callbacks.Tokens.{Tokens}
use Rattle.grain_host.specs.declared.pending_calls.PendingCall.{PendingCall}
use Rattle.grain_host.specs.declared.tables.TableHost.{TableHost}

-- each call has another token than this one
abbrev pub AreOthers : ℕ → List PendingCall → Type 0
AreOthers token [] = Unit
AreOthers token (p ∷ ps) = (p.token ≡ token → ⊥) × AreOthers token ps

-- the tokens of the calls that wait were given, and differ
abbrev pub AreGiven : ℕ → List PendingCall → Type 0
AreGiven n [] = Unit
AreGiven n (p ∷ ps) = (p.token < n) × AreOthers p.token ps × AreGiven n ps

abbrev pub AreNumbered : Tokens → Type 0
AreNumbered s = AreGiven s.given s.pending

-- the second of two states has given the token that is asked with, which is the next one, and no other
abbrev pub Gives : Reply → TableHost → TableHost → Type 0
Gives (Done v) s t = t.tokens.given ≡ s.tokens.given
Gives (Failed x) s t = t.tokens.given ≡ s.tokens.given
Gives (Ask token pointer arguments) s t =
    (token ≡ s.tokens.given) × (t.tokens.given ≡ s.tokens.given + 1)

-- no step leads from a state in which that is so to one in which it is not; a token that is asked with
-- is the next number
pub record GivesOnce (s : TableHost) : Type 0 where
  pub call_numbers : (key : ℕ) (receiver : Option Held) (values : List Tree) →
      AreNumbered (table_law.call_after s key receiver values).tokens
  pub call_gives : (key : ℕ) (receiver : Option Held) (values : List Tree) →
      Gives (table_law.call_reply s key receiver values) s
      (table_law.call_after s key receiver values)
  pub resume_numbers : (token : ℕ) (outcome : Outcome) (receiver : Option Held) →
      AreNumbered (table_law.resume_after s token outcome receiver).tokens
  pub resume_gives : (token : ℕ) (outcome : Outcome) (receiver : Option Held) →
      Gives (table_law.resume_reply s token outcome receiver) s
      (table_law.resume_after s token outcome receiver)
  pub forget_numbers : (token : ℕ) → AreNumbered (table_law.forget_after s token).tokens
  pub forget_gives : (token : ℕ) →
      (table_law.forget_after s token).tokens.given ≡ s.tokens.given
