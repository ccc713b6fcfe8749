-- The host in memory gives each token once.
use Rattle.std.proofs.Common.{◌≡◌, ◌+◌, ℕ, zero, suc, Bool, true, false, List, [], ◌∷◌, ◌++◌, Option, Some, None, refl, arith, if◌then◌else◌}
use Rattle.std.specs.Prelude.{◌==◌, is_some, remove, slice_get}
use Rattle.grain_value.specs.Tree.{Tree}
use Rattle.grain_value.specs.declared.values.Dynamic.{Dynamic}
use Rattle.grain_value.specs.declared.values.Dynamic.TheVariants as dynamic
use Rattle.grain_fault.specs.Problems.{Problem}
use Rattle.grain_host.specs.Law.{Reply, Done, Failed, Ask, Outcome, Value, Fault}
use Rattle.grain_host.specs.Lawful.{may_reply}
use Rattle.grain_host.specs.Resuming.{AsksNothing}
use Rattle.grain_host.specs.Numbering.{AreGiven, AreNumbered, AreOthers, Gives, GivesOnce}
use Rattle.grain_host.specs.Pending.{answered, next_of, place_of, renewed}
use Rattle.grain_host.specs.Mapping.{asks_next, call_at, first_asked, goes_on, gone, keeps_call, mapped, mapped_by, next_asked, next_reply, outcome_reply, start_reply, started}
use Rattle.grain_host.specs.Tables.{after_at, after_in, arguments, call_after, call_reply, map_after, map_reply, reply_at, reply_in, resume_turn, turn}
use Rattle.grain_host.specs.declared.callbacks.Tokens.{Tokens}
use Rattle.grain_host.specs.declared.pending_calls.PendingCall.{PendingCall}
use Rattle.grain_host.specs.declared.tables.TableHost.{TableHost}
use Rattle.grain_host.specs.declared.tables.Turn.{Turn}
use Rattle.grain_host.specs.declared.tables.Turn.TheVariants as turns

-- the calls that wait: one more token is given
still_given : (n : ℕ) (ps : List PendingCall) → AreGiven n ps → AreGiven (n + 1) ps
still_given n [] h = tt
still_given n (p ∷ ps) h = (omega (arith, h.0), h.1, still_given n ps h.2)

-- the next number is none of theirs
others_all : (n : ℕ) (ps : List PendingCall) → AreGiven n ps → AreOthers n ps
others_all n [] h = tt
others_all n (p ∷ ps) h = (λ e. omega (arith, h.0, e), others_all n ps h.2)

others_more : (token : ℕ) (ps : List PendingCall) (p : PendingCall) → AreOthers token ps →
    (p.token ≡ token → ⊥) → AreOthers token (ps ++ p ∷ [])
others_more token [] p h e = (e, tt)
others_more token (q ∷ ps) p h e = (h.0, others_more token ps p h.1 e)

given_more : (n : ℕ) (ps : List PendingCall) (p : PendingCall) → AreGiven n ps → p.token ≡ n →
    AreGiven (n + 1) (ps ++ p ∷ [])
given_more n [] p h e = (omega (arith, e), tt, tt)
given_more n (q ∷ ps) p h e = (
  omega (arith, h.0),
  others_more q.token ps p h.1 (λ i. omega (arith, h.0, e, i)),
  given_more n ps p h.2 e,
)

others_less : (token : ℕ) (ps : List PendingCall) (i : ℕ) → AreOthers token ps →
    AreOthers token (remove ps i)
others_less token [] zero h = tt
others_less token [] (suc i) h = tt
others_less token (p ∷ ps) zero h = h.1
others_less token (p ∷ ps) (suc i) h = (h.0, others_less token ps i h.1)

given_less : (n : ℕ) (ps : List PendingCall) (i : ℕ) → AreGiven n ps → AreGiven n (remove ps i)
given_less n [] zero h = tt
given_less n [] (suc i) h = tt
given_less n (p ∷ ps) zero h = h.2
given_less n (p ∷ ps) (suc i) h =
    (h.0, others_less p.token ps i h.1, given_less n ps i h.2)

others_renewed : (token n : ℕ) (v : Dynamic) (ps : List PendingCall) (i : ℕ) → AreOthers token ps →
    (n ≡ token → ⊥) → AreOthers token (renewed i (answered n v) ps)
others_renewed token n v [] i h e = tt
others_renewed token n v (p ∷ ps) zero h e = (e, h.1)
others_renewed token n v (p ∷ ps) (suc i) h e = (h.0, others_renewed token n v ps i h.1 e)

given_renewed : (n : ℕ) (v : Dynamic) (ps : List PendingCall) (i : ℕ) → AreGiven n ps →
    AreGiven (n + 1) (renewed i (answered n v) ps)
given_renewed n v [] i h = tt
given_renewed n v (p ∷ ps) zero h =
    (omega arith, others_all n ps h.2, still_given n ps h.2)
given_renewed n v (p ∷ ps) (suc i) h = (
  omega (arith, h.0),
  others_renewed p.token n v ps i h.1 (λ e. omega (arith, h.0, e)),
  given_renewed n v ps i h.2,
)

-- the same of tokens alone
abbrev GivesTo : Reply → Tokens → Tokens → Type 0
GivesTo (Done v) s t = t.given ≡ s.given
GivesTo (Failed x) s t = t.given ≡ s.given
GivesTo (Ask token pointer arguments) s t = (token ≡ s.given) × (t.given ≡ s.given + 1)

-- a call that begins
abbrev TokenIs : ℕ → Option PendingCall → Type 0
TokenIs n None = Unit
TokenIs n (Some p) = p.token ≡ n

token_by : (n : ℕ) (u v : Dynamic) → TokenIs n (mapped_by n u v)
token_by n (dynamic.Array ts) (dynamic.Pointer p) = refl
token_by n u v = tt

token_of : (n : ℕ) (vs : List Dynamic) → TokenIs n (mapped n vs)
token_of n [] = tt
token_of n (u ∷ []) = tt
token_of n (u ∷ v ∷ []) = token_by n u v
token_of n (u ∷ v ∷ w ∷ vs) = tt

kept_numbers : (p : PendingCall) (o : Option Tree) (s : Tokens) → AreNumbered s →
    p.token ≡ s.given → AreNumbered (keeps_call p o s)
kept_numbers p None s h e = h
kept_numbers p (Some t) s h e = given_more s.given s.pending p h e

kept_gives : (p : PendingCall) (o : Option Tree) (s : Tokens) → p.token ≡ s.given →
    GivesTo (next_reply p.token p o) s (keeps_call p o s)
kept_gives p None s e = refl
kept_gives p (Some t) s e = (e, refl)

started_numbers : (call : Option PendingCall) (s : Tokens) → AreNumbered s →
    TokenIs s.given call → AreNumbered (started call s)
started_numbers None s h e = h
started_numbers (Some p) s h e = kept_numbers p (slice_get p.elements 0) s h e

started_gives : (call : Option PendingCall) (s : Tokens) → TokenIs s.given call →
    GivesTo (start_reply call) s (started call s)
started_gives None s e = refl
started_gives (Some p) s e = kept_gives p (slice_get p.elements 0) s e

-- a call that goes on
asked_numbers : (i : ℕ) (v : Dynamic) (o : Option Tree) (s : Tokens) → AreNumbered s →
    AreNumbered (asks_next i v o s)
asked_numbers i v None s h = given_less s.given s.pending i h
asked_numbers i v (Some t) s h = given_renewed s.given v s.pending i h

asked_gives : (i : ℕ) (v : Dynamic) (p : PendingCall) (o : Option Tree) (s : Tokens) →
    GivesTo (next_reply s.given p o) s (asks_next i v o s)
asked_gives i v p None s = refl
asked_gives i v p (Some t) s = (refl, refl)

goes_numbers : (place : Option ℕ) (outcome : Outcome) (s : Tokens) → AreNumbered s →
    AreNumbered (goes_on place outcome s)
goes_numbers None outcome s h = h
goes_numbers (Some i) (Value v) s h =
    asked_numbers i v (next_asked (slice_get s.pending i) (Value v)) s h
goes_numbers (Some i) (Fault x) s h = given_less s.given s.pending i h

value_gives : (i : ℕ) (v : Dynamic) (call : Option PendingCall) (s : Tokens) →
    GivesTo (outcome_reply s.given call (Value v)) s (asks_next i v (next_asked call (Value v)) s)
value_gives i v None s = refl
value_gives i v (Some p) s = asked_gives i v (answered s.given v p) (next_of p) s

fault_gives : (call : Option PendingCall) (x : Problem) (s t : Tokens) → t.given ≡ s.given →
    GivesTo (outcome_reply s.given call (Fault x)) s t
fault_gives None x s t e = e
fault_gives (Some p) x s t e = e

goes_gives : (place : Option ℕ) (outcome : Outcome) (s : Tokens) →
    GivesTo (outcome_reply s.given (call_at s place) outcome) s (goes_on place outcome s)
goes_gives None outcome s = refl
goes_gives (Some i) (Value v) s = value_gives i v (slice_get s.pending i) s
goes_gives (Some i) (Fault x) s =
    fault_gives (slice_get s.pending i) x s (goes_on (Some i) (Fault x) s) refl

gone_numbers : (place : Option ℕ) (s : Tokens) → AreNumbered s → AreNumbered (gone place s)
gone_numbers None s h = h
gone_numbers (Some i) s h = given_less s.given s.pending i h

gone_gives : (place : Option ℕ) (s : Tokens) → (gone place s).given ≡ s.given
gone_gives None s = refl
gone_gives (Some i) s = refl

-- steps
in_numbers : (t : Turn) (tokens : Tokens) (s : TableHost) → AreNumbered s.tokens →
    AreNumbered tokens → AreNumbered (after_in t tokens s).tokens
in_numbers turns.Full tokens s h k = h
in_numbers (turns.Failing n) tokens s h k = h
in_numbers (turns.Ready n) tokens s h k = k

done_gives : (r : Reply) (n : ℕ) (tokens : Tokens) (s : TableHost) → GivesTo r s.tokens tokens →
    Gives r s (record s { steps = n; tokens = tokens })
done_gives (Done v) n tokens s h = h
done_gives (Failed x) n tokens s h = h
done_gives (Ask token pointer arguments) n tokens s h = h

in_gives : (t : Turn) (r : Reply) (tokens : Tokens) (s : TableHost) → GivesTo r s.tokens tokens →
    Gives (reply_in t r) s (after_in t tokens s)
in_gives turns.Full r tokens s h = refl
in_gives (turns.Failing n) r tokens s h = refl
in_gives (turns.Ready n) r tokens s h = done_gives r n tokens s h

at_stays : (t : Turn) (s : TableHost) (key : ℕ) (vs : List Dynamic) →
    (after_at t s key vs).tokens ≡ s.tokens
at_stays turns.Full s key vs = refl
at_stays (turns.Failing n) s key vs = refl
at_stays (turns.Ready n) s key vs = refl

asks_nothing : (r : Reply) (s t : TableHost) → AsksNothing r → t.tokens ≡ s.tokens → Gives r s t
asks_nothing (Done v) s t h e = cc
asks_nothing (Failed x) s t h e = cc
asks_nothing (Ask token pointer arguments) s t h e = absurd h

either_numbers : (b : Bool) (t u : TableHost) → AreNumbered t.tokens → AreNumbered u.tokens →
    AreNumbered (if b then t else u).tokens
either_numbers true t u h k = h
either_numbers false t u h k = k

either_gives : (b : Bool) (x y : Reply) (s t u : TableHost) → Gives x s t → Gives y s u →
    Gives (if b then x else y) s (if b then t else u)
either_gives true x y s t u h k = h
either_gives false x y s t u h k = k

call_numbers : (s : TableHost) → AreNumbered s.tokens → (key : ℕ) (vs : List Dynamic) →
    AreNumbered (call_after s key vs).tokens
call_numbers s h key vs =
    let call = mapped s.tokens.given vs in
    either_numbers (key == 4) (map_after s call) (after_at (turn false s) s key vs)
    (in_numbers (turn (is_some (first_asked call)) s) (started call s.tokens) s h
    (started_numbers call s.tokens h (token_of s.tokens.given vs)))
    (rw (at_stays (turn false s) s key vs) h)

call_gives : (s : TableHost) (key : ℕ) (vs : List Dynamic) →
    Gives (call_reply s key vs) s (call_after s key vs)
call_gives s key vs =
    let call = mapped s.tokens.given vs in
    let t = turn false s in
    either_gives (key == 4) (map_reply s call) (reply_at t s.registers key vs) s
    (map_after s call) (after_at t s key vs)
    (in_gives (turn (is_some (first_asked call)) s) (start_reply call) (started call s.tokens) s
    (started_gives call s.tokens (token_of s.tokens.given vs)))
    (asks_nothing (reply_at t s.registers key vs) s (after_at t s key vs)
    (may_reply t s.registers key vs) (at_stays t s key vs))

pub gives_once : (s : TableHost) → AreNumbered s.tokens → GivesOnce s
gives_once s h = record {
  call_numbers = λ key receiver values. call_numbers s h key (arguments receiver values);
  call_gives = λ key receiver values. call_gives s key (arguments receiver values);
  resume_numbers = λ token outcome receiver.
      let place = place_of token s.tokens.pending in
      in_numbers (resume_turn s place outcome) (goes_on place outcome s.tokens) s h
      (goes_numbers place outcome s.tokens h);
  resume_gives = λ token outcome receiver.
      let place = place_of token s.tokens.pending in
      in_gives (resume_turn s place outcome)
      (outcome_reply s.tokens.given (call_at s.tokens place) outcome)
      (goes_on place outcome s.tokens) s (goes_gives place outcome s.tokens);
  forget_numbers = λ token.
      gone_numbers (place_of token s.tokens.pending) s.tokens h;
  forget_gives = λ token. gone_gives (place_of token s.tokens.pending) s.tokens;
}
