-- What `map` asks, answers and keeps is clean where it is given what is clean; and so is all that the
-- host hands over.
use Rattle.std.specs.Prelude.{ℕ, ◌≡◌, ◌==◌, zero, suc, Bool, true, false, ◌&&◌, not, is_some, List, [], ◌∷◌, ◌++◌, Option, Some, None, refl, remove, slice_get, if◌then◌else◌}
use Rattle.grain_value.specs.Tree.{Tree, array, pack}
use Rattle.grain_value.specs.View.{tree}
use Rattle.grain_value.specs.Cells.{is_cell, is_clean}
use Rattle.grain_value.specs.declared.values.Dynamic.{Dynamic}
use Rattle.grain_value.specs.declared.values.Dynamic.TheVariants as dynamic
use Rattle.grain_value.specs.declared.values.Held.{Held}
use Rattle.grain_host.specs.Law.{Reply, Outcome, Value, Fault, call_is_clean, is_plain, outcome_is_plain, reply_is_clean, resume_is_clean}
use Rattle.grain_host.specs.Calling.{given_plain, holds_clean as held_clean, values_plain}
use Rattle.grain_host.specs.Clean.{either, longer_clean, reply_clean}
use Rattle.grain_host.specs.Truths.{both_true, first_true, second_true}
use Rattle.grain_host.specs.Resuming.{holds_clean, outcome_plain, waits_clean}
use Rattle.grain_host.specs.Pending.{answered, next_of, pending_clean, place_of, renewed, waiting_clean}
use Rattle.grain_host.specs.Mapping.{asks_next, call_at, first_asked, goes_on, gone, keeps_call, mapped, mapped_by, next_asked, next_reply, outcome_reply, start_reply, started}
use Rattle.grain_host.specs.Tables.{after_at, after_in, arguments, map_after, map_reply, reply_at, reply_in, resume_turn, table_law, turn}
use Rattle.grain_host.specs.declared.callbacks.Tokens.{Tokens}
use Rattle.grain_host.specs.declared.pending_calls.PendingCall.{PendingCall}
use Rattle.grain_host.specs.declared.tables.TableHost.{TableHost}
use Rattle.grain_host.specs.declared.tables.Turn.{Turn}
use Rattle.grain_host.specs.declared.tables.Turn.TheVariants as turns

abbrev pub CallClean : Option PendingCall → Type 0
CallClean None = Unit
CallClean (Some p) = pending_clean p ≡ true

abbrev ElementClean : Option Tree → Type 0
ElementClean None = Unit
ElementClean (Some t) = is_clean t ≡ true

-- what a call holds
module _ (p : PendingCall) (h : pending_clean p ≡ true) where
  pointer_clean : is_clean (tree (dynamic.Pointer p.pointer)) ≡ true
  pointer_clean =
      first_true (is_clean (tree (dynamic.Pointer p.pointer)))
      (is_clean (array (pack p.elements)) && is_clean (array (pack p.answers))) h

  others : is_clean (array (pack p.elements)) && is_clean (array (pack p.answers)) ≡ true
  others =
      second_true (is_clean (tree (dynamic.Pointer p.pointer)))
      (is_clean (array (pack p.elements)) && is_clean (array (pack p.answers))) h

  elements_clean : is_clean (array (pack p.elements)) ≡ true
  elements_clean =
      first_true (is_clean (array (pack p.elements))) (is_clean (array (pack p.answers))) others

  answers_clean : is_clean (array (pack p.answers)) ≡ true
  answers_clean =
      second_true (is_clean (array (pack p.elements))) (is_clean (array (pack p.answers))) others

call_of : (p : PendingCall) → is_clean (tree (dynamic.Pointer p.pointer)) ≡ true →
    is_clean (array (pack p.elements)) ≡ true → is_clean (array (pack p.answers)) ≡ true →
    pending_clean p ≡ true
call_of p x y z =
    both_true (is_clean (tree (dynamic.Pointer p.pointer)))
    (is_clean (array (pack p.elements)) && is_clean (array (pack p.answers))) x
    (both_true (is_clean (array (pack p.elements))) (is_clean (array (pack p.answers))) y z)

element_clean : (ts : List Tree) (i : ℕ) → is_clean (array (pack ts)) ≡ true →
    ElementClean (slice_get ts i)
element_clean [] i h = tt
element_clean (t ∷ ts) zero h =
    first_true (is_clean t) (is_clean (array (pack ts)))
    (second_true (not (is_cell t)) (is_clean t && is_clean (array (pack ts))) h)
element_clean (t ∷ ts) (suc i) h =
    element_clean ts i
    (second_true (is_clean t) (is_clean (array (pack ts)))
    (second_true (not (is_cell t)) (is_clean t && is_clean (array (pack ts))) h))

next_clean : (token : ℕ) (p : PendingCall) (o : Option Tree) → pending_clean p ≡ true →
    ElementClean o → reply_is_clean (next_reply token p o) ≡ true
next_clean token p None h e = answers_clean p h
next_clean token p (Some t) h e =
    both_true (is_clean (tree (dynamic.Pointer p.pointer))) (is_clean t && true)
    (pointer_clean p h) (both_true (is_clean t) true e refl)

-- a call that begins
clean_of : (v : Dynamic) → is_plain (tree v) ≡ true → is_clean (tree v) ≡ true
clean_of v h = first_true (is_clean (tree v)) (not (is_cell (tree v))) h

by_clean : (token : ℕ) (u v : Dynamic) → is_clean (tree u) ≡ true → is_clean (tree v) ≡ true →
    CallClean (mapped_by token u v)
by_clean token (dynamic.Array ts) (dynamic.Pointer p) x y =
    call_of (record { token = token; pointer = p; elements = ts; answers = [] }) y x refl
by_clean token u v x y = tt

mapped_clean : (token : ℕ) (vs : List Dynamic) → values_plain vs ≡ true →
    CallClean (mapped token vs)
mapped_clean token [] h = tt
mapped_clean token (u ∷ []) h = tt
mapped_clean token (u ∷ v ∷ []) h =
    by_clean token u v (clean_of u (first_true (is_plain (tree u)) (is_plain (tree v) && true) h))
    (clean_of v (first_true (is_plain (tree v)) true
    (second_true (is_plain (tree u)) (is_plain (tree v) && true) h)))
mapped_clean token (u ∷ v ∷ w ∷ vs) h = tt

start_clean : (call : Option PendingCall) → CallClean call →
    reply_is_clean (start_reply call) ≡ true
start_clean None h = refl
start_clean (Some p) h =
    next_clean p.token p (slice_get p.elements 0) h
    (element_clean p.elements 0 (elements_clean p h))

one_more : (ps : List PendingCall) (p : PendingCall) → waiting_clean ps ≡ true →
    pending_clean p ≡ true → waiting_clean (ps ++ p ∷ []) ≡ true
one_more [] p x y = both_true (pending_clean p) true y refl
one_more (q ∷ ps) p x y =
    both_true (pending_clean q) (waiting_clean (ps ++ p ∷ []))
    (first_true (pending_clean q) (waiting_clean ps) x)
    (one_more ps p (second_true (pending_clean q) (waiting_clean ps) x) y)

kept_clean : (p : PendingCall) (o : Option Tree) (s : Tokens) → waiting_clean s.pending ≡ true →
    pending_clean p ≡ true → waiting_clean (keeps_call p o s).pending ≡ true
kept_clean p None s x y = x
kept_clean p (Some t) s x y = one_more s.pending p x y

started_clean : (call : Option PendingCall) (s : Tokens) → waiting_clean s.pending ≡ true →
    CallClean call → waiting_clean (started call s).pending ≡ true
started_clean None s x y = x
started_clean (Some p) s x y = kept_clean p (slice_get p.elements 0) s x y

-- a call that goes on
answered_clean : (token : ℕ) (v : Dynamic) (p : PendingCall) → pending_clean p ≡ true →
    is_plain (tree v) ≡ true → pending_clean (answered token v p) ≡ true
answered_clean token v p h e =
    call_of (answered token v p) (pointer_clean p h) (elements_clean p h)
    (longer_clean p.answers (tree v) (answers_clean p h) e)

outcome_clean : (token : ℕ) (call : Option PendingCall) (outcome : Outcome) → CallClean call →
    outcome_is_plain outcome ≡ true → reply_is_clean (outcome_reply token call outcome) ≡ true
outcome_clean token None outcome h e = refl
outcome_clean token (Some p) (Value v) h e =
    next_clean token (answered token v p) (next_of p) (answered_clean token v p h e)
    (element_clean p.elements _ (elements_clean p h))
outcome_clean token (Some p) (Fault x) h e = e

there_clean : (ps : List PendingCall) (i : ℕ) → waiting_clean ps ≡ true →
    CallClean (slice_get ps i)
there_clean [] i h = tt
there_clean (p ∷ ps) zero h = first_true (pending_clean p) (waiting_clean ps) h
there_clean (p ∷ ps) (suc i) h =
    there_clean ps i (second_true (pending_clean p) (waiting_clean ps) h)

at_clean : (s : Tokens) (place : Option ℕ) → waiting_clean s.pending ≡ true →
    CallClean (call_at s place)
at_clean s None h = tt
at_clean s (Some i) h = there_clean s.pending i h

-- what is left
one_less : (ps : List PendingCall) (i : ℕ) → waiting_clean ps ≡ true →
    waiting_clean (remove ps i) ≡ true
one_less [] zero h = h
one_less [] (suc i) h = h
one_less (p ∷ ps) zero h = second_true (pending_clean p) (waiting_clean ps) h
one_less (p ∷ ps) (suc i) h =
    both_true (pending_clean p) (waiting_clean (remove ps i))
    (first_true (pending_clean p) (waiting_clean ps) h)
    (one_less ps i (second_true (pending_clean p) (waiting_clean ps) h))

one_answered : (token : ℕ) (v : Dynamic) (ps : List PendingCall) (i : ℕ) →
    waiting_clean ps ≡ true → is_plain (tree v) ≡ true →
    waiting_clean (renewed i (answered token v) ps) ≡ true
one_answered token v [] i h e = h
one_answered token v (p ∷ ps) zero h e =
    both_true (pending_clean (answered token v p)) (waiting_clean ps)
    (answered_clean token v p (first_true (pending_clean p) (waiting_clean ps) h) e)
    (second_true (pending_clean p) (waiting_clean ps) h)
one_answered token v (p ∷ ps) (suc i) h e =
    both_true (pending_clean p) (waiting_clean (renewed i (answered token v) ps))
    (first_true (pending_clean p) (waiting_clean ps) h)
    (one_answered token v ps i (second_true (pending_clean p) (waiting_clean ps) h) e)

asked_clean : (i : ℕ) (v : Dynamic) (o : Option Tree) (s : Tokens) →
    waiting_clean s.pending ≡ true → is_plain (tree v) ≡ true →
    waiting_clean (asks_next i v o s).pending ≡ true
asked_clean i v None s h e = one_less s.pending i h
asked_clean i v (Some t) s h e = one_answered s.given v s.pending i h e

goes_clean : (place : Option ℕ) (outcome : Outcome) (s : Tokens) →
    waiting_clean s.pending ≡ true → outcome_is_plain outcome ≡ true →
    waiting_clean (goes_on place outcome s).pending ≡ true
goes_clean None outcome s h e = h
goes_clean (Some i) (Value v) s h e =
    asked_clean i v (next_asked (slice_get s.pending i) (Value v)) s h e
goes_clean (Some i) (Fault x) s h e = one_less s.pending i h

gone_clean : (place : Option ℕ) (s : Tokens) → waiting_clean s.pending ≡ true →
    waiting_clean (gone place s).pending ≡ true
gone_clean None s h = h
gone_clean (Some i) s h = one_less s.pending i h

-- steps of the host
in_clean : (t : Turn) (r : Reply) → reply_is_clean r ≡ true → reply_is_clean (reply_in t r) ≡ true
in_clean turns.Full r h = refl
in_clean (turns.Failing k) r h = refl
in_clean (turns.Ready k) r h = h

pub table_replies_clean : (s : TableHost) (key : ℕ) (receiver : Option Held)
    (values : List Tree) → call_is_clean table_law s receiver values ≡ true →
    reply_is_clean (table_law.call_reply s key receiver values) ≡ true
table_replies_clean s key receiver values clean =
    let vs = arguments receiver values in
    let call = mapped s.tokens.given vs in
    either (key == 4) (map_reply s call) (reply_at (turn false s) s.registers key vs)
    (in_clean (turn (is_some (first_asked call)) s) (start_reply call)
    (start_clean call (mapped_clean s.tokens.given vs (given_plain table_law s receiver values clean))))
    (reply_clean (turn false s) s.registers key vs (given_plain table_law s receiver values clean))

-- what is kept for calls that wait
abbrev Waits : TableHost → Type 0
Waits s = waiting_clean s.tokens.pending ≡ true

waits_at : (t : Turn) (s : TableHost) (key : ℕ) (vs : List Dynamic) → Waits s →
    Waits (after_at t s key vs)
waits_at turns.Full s key vs h = h
waits_at (turns.Failing k) s key vs h = h
waits_at (turns.Ready k) s key vs h = h

waits_in : (t : Turn) (tokens : Tokens) (s : TableHost) → Waits s →
    waiting_clean tokens.pending ≡ true → Waits (after_in t tokens s)
waits_in turns.Full tokens s h k = h
waits_in (turns.Failing j) tokens s h k = h
waits_in (turns.Ready j) tokens s h k = k

either_waits : (b : Bool) (x y : TableHost) → Waits x → Waits y → Waits (if b then x else y)
either_waits true x y p q = p
either_waits false x y p q = q

pub table_waits_called : (s : TableHost) (key : ℕ) (receiver : Option Held) (values : List Tree) →
    call_is_clean table_law s receiver values ≡ true → table_law.waits_clean s ≡ true →
    table_law.waits_clean (table_law.call_after s key receiver values) ≡ true
table_waits_called s key receiver values clean waits =
    let vs = arguments receiver values in
    let call = mapped s.tokens.given vs in
    either_waits (key == 4) (map_after s call) (after_at (turn false s) s key vs)
    (waits_in (turn (is_some (first_asked call)) s) (started call s.tokens) s waits
    (started_clean call s.tokens waits
    (mapped_clean s.tokens.given vs (given_plain table_law s receiver values clean))))
    (waits_at (turn false s) s key vs waits)

-- where the host hears of an outcome
pub table_resumes_clean : (s : TableHost) (token : ℕ) (outcome : Outcome)
    (receiver : Option Held) → resume_is_clean table_law s outcome receiver ≡ true →
    reply_is_clean (table_law.resume_reply s token outcome receiver) ≡ true
table_resumes_clean s token outcome receiver clean =
    let place = place_of token s.tokens.pending in
    let call = call_at s.tokens place in
    in_clean (resume_turn s place outcome) (outcome_reply s.tokens.given call outcome)
    (outcome_clean s.tokens.given call outcome
    (at_clean s.tokens place (waits_clean table_law s outcome receiver clean))
    (outcome_plain table_law s outcome receiver clean))

pub table_waits_resumed : (s : TableHost) (token : ℕ) (outcome : Outcome)
    (receiver : Option Held) → resume_is_clean table_law s outcome receiver ≡ true →
    table_law.waits_clean (table_law.resume_after s token outcome receiver) ≡ true
table_waits_resumed s token outcome receiver clean =
    let place = place_of token s.tokens.pending in
    waits_in (resume_turn s place outcome) (goes_on place outcome s.tokens) s
    (waits_clean table_law s outcome receiver clean)
    (goes_clean place outcome s.tokens (waits_clean table_law s outcome receiver clean)
    (outcome_plain table_law s outcome receiver clean))

pub table_waits_forgotten : (s : TableHost) (token : ℕ) → table_law.waits_clean s ≡ true →
    table_law.waits_clean (table_law.forget_after s token) ≡ true
table_waits_forgotten s token waits =
    gone_clean (place_of token s.tokens.pending) s.tokens waits

-- no step changes the lines
lines_in : (t : Turn) (tokens : Tokens) (s : TableHost) → (after_in t tokens s).stops ≡ s.stops
lines_in turns.Full tokens s = refl
lines_in (turns.Failing k) tokens s = refl
lines_in (turns.Ready k) tokens s = refl

lines_at : (t : Turn) (s : TableHost) (key : ℕ) (vs : List Dynamic) →
    (after_at t s key vs).stops ≡ s.stops
lines_at turns.Full s key vs = refl
lines_at (turns.Failing k) s key vs = refl
lines_at (turns.Ready k) s key vs = refl

either_lines : (b : Bool) (x y s : TableHost) → x.stops ≡ s.stops → y.stops ≡ s.stops →
    (if b then x else y).stops ≡ s.stops
either_lines true x y s p q = p
either_lines false x y s p q = q

pub table_stays_clean : (s : TableHost) (key : ℕ) (receiver : Option Held)
    (values : List Tree) → call_is_clean table_law s receiver values ≡ true →
    table_law.holds_clean (table_law.call_after s key receiver values) ≡ true
table_stays_clean s key receiver values clean =
    let vs = arguments receiver values in
    let call = mapped s.tokens.given vs in
    rw (either_lines (key == 4) (map_after s call) (after_at (turn false s) s key vs) s
    (lines_in (turn (is_some (first_asked call)) s) (started call s.tokens) s)
    (lines_at (turn false s) s key vs)) (held_clean table_law s receiver values clean)

pub table_stays_resumed_clean : (s : TableHost) (token : ℕ) (outcome : Outcome)
    (receiver : Option Held) → resume_is_clean table_law s outcome receiver ≡ true →
    table_law.holds_clean (table_law.resume_after s token outcome receiver) ≡ true
table_stays_resumed_clean s token outcome receiver clean =
    let place = place_of token s.tokens.pending in
    rw (lines_in (resume_turn s place outcome) (goes_on place outcome s.tokens) s)
    (holds_clean table_law s outcome receiver clean)
