-- The law of a host: what it answers, writes and becomes are functions of its state and of what it
-- is given.
use Rattle.std.specs.Prelude.{ℕ, nat_eq, ◌≤◌, max, Bool, true, false, ◌&&◌, ◌||◌, not, List, Option, Some, None, ◌≡◌, if◌then◌else◌, option_map}
use Rattle.std.specs.List.{list_all}
use Rattle.grain_value.specs.Tree.{Tree, array, pack}
use Rattle.grain_value.specs.View.{tree}
use Rattle.grain_value.specs.Cells.{cell_bound, is_cell, is_clean}
use Rattle.grain_value.specs.Looking.{cell_of}
use Rattle.grain_value.specs.declared.values.Dynamic.{Dynamic}
use Rattle.grain_value.specs.declared.values.Dynamic.TheVariants as dynamic
use Rattle.grain_value.specs.declared.values.FnPtr.{FnPtr}
use Rattle.grain_value.specs.declared.values.Held.{Held}
use Rattle.grain_value.specs.declared.natives.Native.{Native}
use Rattle.grain_fault.specs.Problems.{Problem}
use Rattle.grain_fault.specs.Cells.{problem_bound, problem_is_clean}
use Rattle.grain_host.specs.Faults.{handed_back}

-- the answer to a call, or where a host is resumed
pub data Reply : Type 0 where
  -- the call's value
  Done : Dynamic → Reply
  -- the call failed
  Failed : Problem → Reply
  -- The host asks for a call of a function of the script: a token, by which it is resumed or told to
  -- forget, the pointer to the function, and the arguments after the pointer's own values.
  Ask : ℕ → FnPtr → List Tree → Reply

-- what came of a call that the host asked for
pub data Outcome : Type 0 where
  -- its value
  Value : Dynamic → Outcome
  -- a fault, which is one that a host may answer
  Fault : Problem → Outcome

-- the answer where the host hears how many operations a run has taken
pub data Verdict : Type 0 where
  GoOn : Verdict
  -- the run is to end, with this token
  Stop : Dynamic → Verdict

-- a host whose states are S
pub record Law (S : Type 0) : Type 0 where
  -- the key of the native of a name and of its arguments' kinds
  pub resolves : S → List ℕ → List ℕ → Option ℕ
  -- whether a call of the key may write its first argument
  pub writes : S → ℕ → Bool
  -- what is answered to a call of a key with a receiver, or with none, and the other arguments
  pub call_reply : S → ℕ → Option Held → List Tree → Reply
  -- the state after the call
  pub call_after : S → ℕ → Option Held → List Tree → S
  -- what a key that writes leaves in a receiver
  pub call_written : S → ℕ → Held → List Tree → Dynamic
  -- what is answered where the host hears what came of what it asked for with a token. The receiver is
  -- as the host left it, and there are no other arguments.
  pub resume_reply : S → ℕ → Outcome → Option Held → Reply
  -- the state afterwards
  pub resume_after : S → ℕ → Outcome → Option Held → S
  -- what is then left in a receiver, if the token is one of a native that writes
  pub resume_written : S → ℕ → Outcome → Held → Dynamic
  -- Whether the native that asks with the token may write its receiver. Where a host gives a number again
  -- while it is still out, the law says what it stands for only until the inner one is taken back: that the
  -- outer native then writes only if it may is up to the host.
  pub token_writes : S → ℕ → Bool
  -- the state once the host was told that it will not hear of a token any more
  pub forget_after : S → ℕ → S
  -- what is answered, and the state afterwards, where a run has taken a number of operations
  pub progress_reply : S → ℕ → Verdict
  pub progress_after : S → ℕ → S
  -- The cells below this number may be handed over, beside those that a call is given. No call gives
  -- the number.
  pub reach : S → ℕ
  -- Whether all that may be handed over, beside what a call is given and what is kept for tokens, is
  -- clean: no cell stands directly inside an array or a map. Each host vouches for it (`Host::vouch`), and
  -- no call asks for it.
  pub holds_clean : S → Bool
  -- Whether all that is kept for tokens is clean too. No host can vouch for it, since what is kept was
  -- given to it; before anything is asked it is so.
  pub waits_clean : S → Bool

-- the native of a name and of its arguments' kinds
abbrev pub native_of : {S : Type 0} → Law S → S → List ℕ → List ℕ → Option Native
native_of law s name kinds =
    option_map (λ key. record { key = key; writes = law.writes s key }) (law.resolves s name kinds)

-- a receiver after a call: its flag stays, and so does its value unless the key writes
abbrev pub written : {S : Type 0} → Law S → S → ℕ → List Tree → Held → Held
written law s key values h =
    if law.writes s key then record h { value = law.call_written s key h values } else h

-- there is a receiver after a call exactly where there was one before
abbrev pub receiver_after : {S : Type 0} → Law S → S → ℕ → Option Held → List Tree → Option Held
receiver_after law s key receiver values = option_map (written law s key values) receiver

-- a receiver once the host heard what came of what it asked for: the same
abbrev pub rewritten : {S : Type 0} → Law S → S → ℕ → Outcome → Held → Held
rewritten law s token outcome h =
    if law.token_writes s token then record h { value = law.resume_written s token outcome h } else h

abbrev pub receiver_resumed : {S : Type 0} → Law S → S → ℕ → Outcome → Option Held → Option Held
receiver_resumed law s token outcome receiver =
    option_map (rewritten law s token outcome) receiver

-- the second state has the same natives as the first, and the same of them write
abbrev pub KeepsTable : {S : Type 0} → Law S → S → S → Type 0
KeepsTable law s t =
    ((name kinds : List ℕ) → law.resolves t name kinds ≡ law.resolves s name kinds)
    × ((key : ℕ) → law.writes t key ≡ law.writes s key)

-- No token but the named ones begins to write: one that stands in the second state for a native that
-- writes did so in the first. A host may forget what it keeps for a token.
abbrev pub KeepsTokens : {S : Type 0} → Law S → (ℕ → Bool) → S → S → Type 0
KeepsTokens law named s t =
    (token : ℕ) → named token ≡ false → law.token_writes t token ≡ true →
    law.token_writes s token ≡ true

-- whether an answer asks with this token
abbrev pub asks_with : Reply → ℕ → Bool
asks_with (Done v) token = false
asks_with (Failed x) token = false
asks_with (Ask given pointer arguments) token = nat_eq given token

-- the token of what is asked writes where the native writes that asks
abbrev pub AsksAs : {S : Type 0} → Law S → S → Bool → Reply → Type 0
AsksAs law s writes (Done v) = Unit
AsksAs law s writes (Failed x) = Unit
AsksAs law s writes (Ask token pointer arguments) = law.token_writes s token ≡ writes

-- a fault that is answered is one that a host may answer
abbrev pub MayBeAnswered : Reply → Type 0
MayBeAnswered (Done v) = Unit
MayBeAnswered (Failed x) = handed_back x ≡ false
MayBeAnswered (Ask token pointer arguments) = Unit

-- and so is one that a host hears of
abbrev pub MayBeHeard : Outcome → Type 0
MayBeHeard (Value v) = Unit
MayBeHeard (Fault x) = handed_back x ≡ false

-- one more than the greatest cell that a receiver names, and 0 where it names none
abbrev pub receiver_bound : Option Held → ℕ
receiver_bound None = 0
receiver_bound (Some h) = cell_bound (tree h.value)

-- the cells that the host may hand over in a call, and keep after it, are below this number: they are
-- below its reach, or it is given them
abbrev pub call_bound : {S : Type 0} → Law S → S → Option Held → List Tree → ℕ
call_bound law s receiver values =
    max (law.reach s) (max (receiver_bound receiver) (cell_bound (array (pack values))))

-- one more than the greatest cell that an outcome names, and 0 where it names none
abbrev pub outcome_bound : Outcome → ℕ
outcome_bound (Value v) = cell_bound (tree v)
outcome_bound (Fault x) = problem_bound x

-- the same for the cells that the host may hand over, and keep, where it hears of an outcome
abbrev pub resume_bound : {S : Type 0} → Law S → S → Outcome → Option Held → ℕ
resume_bound law s outcome receiver =
    max (law.reach s) (max (receiver_bound receiver) (outcome_bound outcome))

-- one more than the greatest cell that an answer names, and 0 where it names none
abbrev pub reply_bound : Reply → ℕ
reply_bound (Done v) = cell_bound (tree v)
reply_bound (Failed x) = problem_bound x
reply_bound (Ask token pointer arguments) =
    max (cell_bound (tree (dynamic.Pointer pointer))) (cell_bound (array (pack arguments)))

abbrev pub verdict_bound : Verdict → ℕ
verdict_bound GoOn = 0
verdict_bound (Stop v) = cell_bound (tree v)

-- whether this is a value as a native is given it: clean, and no cell
abbrev pub is_plain : Tree → Bool
is_plain t = is_clean t && not (is_cell t)

abbrev pub receiver_is_plain : Option Held → Bool
receiver_is_plain None = true
receiver_is_plain (Some h) = is_plain (tree h.value)

-- whether all that the host may hand over in a call, and keep after it, is clean: what it holds is,
-- and what it is given is plain
abbrev pub call_is_clean : {S : Type 0} → Law S → S → Option Held → List Tree → Bool
call_is_clean law s receiver values =
    law.holds_clean s && (receiver_is_plain receiver && list_all is_plain values)

-- whether an outcome is as a host is given it: a value is clean and no cell, and a fault's values are
-- clean
abbrev pub outcome_is_plain : Outcome → Bool
outcome_is_plain (Value v) = is_plain (tree v)
outcome_is_plain (Fault x) = problem_is_clean x

-- whether all that the host may hand over, and keep, where it hears of an outcome is clean
abbrev pub resume_is_clean : {S : Type 0} → Law S → S → Outcome → Option Held → Bool
resume_is_clean law s outcome receiver =
    (law.holds_clean s && law.waits_clean s)
    && (receiver_is_plain receiver && outcome_is_plain outcome)

-- whether the values of an answer are clean
abbrev pub reply_is_clean : Reply → Bool
reply_is_clean (Done v) = is_clean (tree v)
reply_is_clean (Failed x) = problem_is_clean x
reply_is_clean (Ask token pointer arguments) =
    is_clean (tree (dynamic.Pointer pointer)) && list_all is_clean arguments

abbrev pub verdict_is_clean : Verdict → Bool
verdict_is_clean GoOn = true
verdict_is_clean (Stop v) = is_clean (tree v)

-- what every host's law keeps to
pub record IsLawful {S : Type 0} (law : Law S) : Type 0 where
  pub call_keeps : (s : S) (key : ℕ) (receiver : Option Held) (values : List Tree) →
      KeepsTable law s (law.call_after s key receiver values)
  pub progress_keeps : (s : S) (count : ℕ) → KeepsTable law s (law.progress_after s count)
  pub resume_keeps : (s : S) (token : ℕ) (outcome : Outcome) (receiver : Option Held) →
      KeepsTable law s (law.resume_after s token outcome receiver)
  pub forget_keeps : (s : S) (token : ℕ) → KeepsTable law s (law.forget_after s token)
  pub call_keeps_tokens : (s : S) (key : ℕ) (receiver : Option Held) (values : List Tree) →
      KeepsTokens law (asks_with (law.call_reply s key receiver values)) s
      (law.call_after s key receiver values)
  pub progress_keeps_tokens : (s : S) (count : ℕ) →
      KeepsTokens law (λ token. false) s (law.progress_after s count)
  pub resume_keeps_tokens : (s : S) (token : ℕ) (outcome : Outcome) (receiver : Option Held) →
      KeepsTokens law
      (λ t. nat_eq token t || asks_with (law.resume_reply s token outcome receiver) t) s
      (law.resume_after s token outcome receiver)
  pub forget_keeps_tokens : (s : S) (token : ℕ) →
      KeepsTokens law (nat_eq token) s (law.forget_after s token)
  pub asks : (s : S) (key : ℕ) (receiver : Option Held) (values : List Tree) →
      AsksAs law (law.call_after s key receiver values) (law.writes s key)
      (law.call_reply s key receiver values)
  pub asks_again : (s : S) (token : ℕ) (outcome : Outcome) (receiver : Option Held) →
      AsksAs law (law.resume_after s token outcome receiver) (law.token_writes s token)
      (law.resume_reply s token outcome receiver)
  pub faults : (s : S) (key : ℕ) (receiver : Option Held) (values : List Tree) →
      MayBeAnswered (law.call_reply s key receiver values)
  pub resume_faults : (s : S) (token : ℕ) (outcome : Outcome) (receiver : Option Held) →
      MayBeHeard outcome → MayBeAnswered (law.resume_reply s token outcome receiver)
  pub replies_within : (s : S) (key : ℕ) (receiver : Option Held) (values : List Tree) →
      reply_bound (law.call_reply s key receiver values) ≤ call_bound law s receiver values
  pub writes_within : (s : S) (key : ℕ) (h : Held) (values : List Tree) →
      cell_bound (tree (law.call_written s key h values)) ≤ call_bound law s (Some h) values
  pub writes_content : (s : S) (key : ℕ) (h : Held) (values : List Tree) →
      cell_of h.value ≡ None → cell_of (law.call_written s key h values) ≡ None
  pub stays_within : (s : S) (key : ℕ) (receiver : Option Held) (values : List Tree) →
      law.reach (law.call_after s key receiver values) ≤ call_bound law s receiver values
  pub resume_replies_within : (s : S) (token : ℕ) (outcome : Outcome) (receiver : Option Held) →
      reply_bound (law.resume_reply s token outcome receiver)
      ≤ resume_bound law s outcome receiver
  pub resume_writes_within : (s : S) (token : ℕ) (outcome : Outcome) (h : Held) →
      cell_bound (tree (law.resume_written s token outcome h))
      ≤ resume_bound law s outcome (Some h)
  pub resume_writes_content : (s : S) (token : ℕ) (outcome : Outcome) (h : Held) →
      cell_of h.value ≡ None → cell_of (law.resume_written s token outcome h) ≡ None
  pub resume_stays_within : (s : S) (token : ℕ) (outcome : Outcome) (receiver : Option Held) →
      law.reach (law.resume_after s token outcome receiver) ≤ resume_bound law s outcome receiver
  pub forgets_within : (s : S) (token : ℕ) → law.reach (law.forget_after s token) ≤ law.reach s
  pub stops_within : (s : S) (count : ℕ) →
      verdict_bound (law.progress_reply s count) ≤ law.reach s
  pub hears_within : (s : S) (count : ℕ) → law.reach (law.progress_after s count) ≤ law.reach s
  pub replies_clean : (s : S) (key : ℕ) (receiver : Option Held) (values : List Tree) →
      call_is_clean law s receiver values ≡ true →
      reply_is_clean (law.call_reply s key receiver values) ≡ true
  pub writes_clean : (s : S) (key : ℕ) (h : Held) (values : List Tree) →
      call_is_clean law s (Some h) values ≡ true →
      is_clean (tree (law.call_written s key h values)) ≡ true
  pub stays_clean : (s : S) (key : ℕ) (receiver : Option Held) (values : List Tree) →
      call_is_clean law s receiver values ≡ true →
      law.holds_clean (law.call_after s key receiver values) ≡ true
  pub waits_after_call : (s : S) (key : ℕ) (receiver : Option Held) (values : List Tree) →
      call_is_clean law s receiver values ≡ true → law.waits_clean s ≡ true →
      law.waits_clean (law.call_after s key receiver values) ≡ true
  pub resume_replies_clean : (s : S) (token : ℕ) (outcome : Outcome) (receiver : Option Held) →
      resume_is_clean law s outcome receiver ≡ true →
      reply_is_clean (law.resume_reply s token outcome receiver) ≡ true
  pub resume_writes_clean : (s : S) (token : ℕ) (outcome : Outcome) (h : Held) →
      resume_is_clean law s outcome (Some h) ≡ true →
      is_clean (tree (law.resume_written s token outcome h)) ≡ true
  pub resume_stays_clean : (s : S) (token : ℕ) (outcome : Outcome) (receiver : Option Held) →
      resume_is_clean law s outcome receiver ≡ true →
      law.holds_clean (law.resume_after s token outcome receiver) ≡ true
  pub waits_after_resume : (s : S) (token : ℕ) (outcome : Outcome) (receiver : Option Held) →
      resume_is_clean law s outcome receiver ≡ true →
      law.waits_clean (law.resume_after s token outcome receiver) ≡ true
  pub forgets_clean : (s : S) (token : ℕ) → law.holds_clean s ≡ true →
      law.holds_clean (law.forget_after s token) ≡ true
  pub waits_after_forget : (s : S) (token : ℕ) → law.waits_clean s ≡ true →
      law.waits_clean (law.forget_after s token) ≡ true
  pub stops_clean : (s : S) (count : ℕ) → law.holds_clean s ≡ true →
      verdict_is_clean (law.progress_reply s count) ≡ true
  pub hears_clean : (s : S) (count : ℕ) → law.holds_clean s ≡ true →
      law.holds_clean (law.progress_after s count) ≡ true
  pub waits_after_progress : (s : S) (count : ℕ) → law.waits_clean s ≡ true →
      law.waits_clean (law.progress_after s count) ≡ true
