-- `map`: what it asks, answers and keeps.
use Rattle.std.specs.Prelude.{◌≡◌, ◌==◌, ◌&&◌, ◌^◌, ◌-◌, ℕ, ◌+◌, ◌++◌, Bool, false, List, [], ◌∷◌, Option, Some, None, remove, slice_get, option_and_then}
use Rattle.grain_value.specs.Tree.{Tree}
use Rattle.grain_value.specs.declared.values.Dynamic.{Dynamic}
use Rattle.grain_value.specs.declared.values.Dynamic.TheVariants as dynamic
use Rattle.grain_host.specs.Law.{Reply, Done, Failed, Ask, Outcome, Value, Fault}
use Rattle.grain_host.specs.Pending.{begun, answered, next_of, renewed}
use Rattle.grain_host.specs.Refusals.{unknown}
use Rattle.grain_host.specs.declared.callbacks.Tokens.{Tokens}
use Rattle.grain_host.specs.declared.pending_calls.PendingCall.{PendingCall}

-- a call of `map`: of an array and a pointer. Its first element is asked with this token
abbrev pub mapped_by : ℕ → Dynamic → Dynamic → Option PendingCall
mapped_by token (dynamic.Array ts) (dynamic.Pointer p) = Some (begun token ts p)
mapped_by token u v = None

abbrev pub mapped : ℕ → List Dynamic → Option PendingCall
mapped token [] = None
mapped token (u ∷ []) = None
mapped token (u ∷ v ∷ []) = mapped_by token u v
mapped token (u ∷ v ∷ w ∷ vs) = None

-- an element is asked, or all answers are given
abbrev pub next_reply : ℕ → PendingCall → Option Tree → Reply
next_reply token p None = Done (dynamic.Array p.answers)
next_reply token p (Some t) = Ask token p.pointer (t ∷ [])

-- the element that is asked where a call begins, if there is one
abbrev pub first_asked : Option PendingCall → Option Tree
first_asked None = None
first_asked (Some p) = slice_get p.elements 0

-- what is answered there, if there is a call
abbrev pub start_reply : Option PendingCall → Reply
start_reply None = unknown
start_reply (Some p) = next_reply p.token p (slice_get p.elements 0)

-- what is kept of it: a call of which an element is asked, whose token is then given
abbrev pub keeps_call : PendingCall → Option Tree → Tokens → Tokens
keeps_call p None s = s
keeps_call p (Some t) s = record { given = s.given + 1; pending = s.pending ++ p ∷ [] }

abbrev pub started : Option PendingCall → Tokens → Tokens
started None s = s
started (Some p) s = keeps_call p (slice_get p.elements 0) s

-- the call at a place, if there is one
abbrev pub call_at : Tokens → Option ℕ → Option PendingCall
call_at s place = option_and_then (slice_get s.pending) place

-- the element that is asked after this outcome, if there is one
abbrev pub next_asked : Option PendingCall → Outcome → Option Tree
next_asked None outcome = None
next_asked (Some p) (Value v) = next_of p
next_asked (Some p) (Fault x) = None

-- what is answered then: a value is the answer to the element that was out, and a fault is passed on
abbrev pub outcome_reply : ℕ → Option PendingCall → Outcome → Reply
outcome_reply token None outcome = unknown
outcome_reply token (Some p) (Value v) = next_reply token (answered token v p) (next_of p)
outcome_reply token (Some p) (Fault x) = Failed x

-- what is kept then: a call that asks for a further element has another token, and one that does not
-- is gone
abbrev pub asks_next : ℕ → Dynamic → Option Tree → Tokens → Tokens
asks_next i v None s = record s { pending = remove s.pending i }
asks_next i v (Some t) s =
    record { given = s.given + 1; pending = renewed i (answered s.given v) s.pending }

abbrev pub goes_on : Option ℕ → Outcome → Tokens → Tokens
goes_on None outcome s = s
goes_on (Some i) (Value v) s = asks_next i v (next_asked (slice_get s.pending i) (Value v)) s
goes_on (Some i) (Fault x) s = record s { pending = remove s.pending i }

-- a further token can be given, if one is
abbrev pub HasRoom : Bool → Tokens → Type 0
HasRoom asks s = (asks && (s.given == 2 ^ 64 - 1)) ≡ false

-- what is kept once a call is forgotten
abbrev pub gone : Option ℕ → Tokens → Tokens
gone None s = s
gone (Some i) s = record s { pending = remove s.pending i }
