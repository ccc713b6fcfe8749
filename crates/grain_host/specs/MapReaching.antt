-- What `map` asks, answers and keeps names no cells but those that it was given.
use Rattle.std.specs.Prelude.{ℕ, ◌≤◌, zero, suc, max, List, [], ◌∷◌, ◌++◌, Option, Some, None, remove, slice_get}
use Rattle.std.proofs.Common.{arith}
use Rattle.std.proofs.Math.Nat.{le-max_left, le-max_right, max-le}
use Rattle.grain_value.specs.Tree.{Tree, array, pack}
use Rattle.grain_value.specs.View.{tree}
use Rattle.grain_value.specs.Cells.{cell_bound, items_bound}
use Rattle.grain_value.specs.declared.values.Dynamic.{Dynamic}
use Rattle.grain_value.specs.declared.values.Dynamic.TheVariants as dynamic
use Rattle.grain_host.specs.Calling.{arguments_bound}
use Rattle.grain_host.specs.Law.{Outcome, Value, Fault, outcome_bound, reply_bound}
use Rattle.grain_host.specs.Pending.{answered, next_of, pending_bound, renewed, waiting_bound}
use Rattle.grain_host.specs.Mapping.{asks_next, call_at, goes_on, gone, keeps_call, mapped, mapped_by, next_asked, next_reply, outcome_reply, start_reply, started}
use Rattle.grain_host.specs.declared.callbacks.Tokens.{Tokens}
use Rattle.grain_host.specs.declared.pending_calls.PendingCall.{PendingCall}

-- an array with one more value names what the two name
pub longer_within : (ts : List Tree) (t : Tree) (n : ℕ) → items_bound (pack ts) ≤ n →
    cell_bound t ≤ n → items_bound (pack (ts ++ t ∷ [])) ≤ n
longer_within [] t n p q = max-le {a = cell_bound t} {b = 0} q (omega arith)
longer_within (u ∷ us) t n p q =
    max-le {a = cell_bound u} {b = items_bound (pack (us ++ t ∷ []))}
    (omega (arith, p, le-max_left (cell_bound u) (items_bound (pack us))))
    (longer_within us t n
    (omega (arith, p, le-max_right (cell_bound u) (items_bound (pack us)))) q)

-- what two numbers are below
pub first_below : (a b n : ℕ) → max a b ≤ n → a ≤ n
first_below a b n h = omega (arith, h, le-max_left a b)

pub second_below : (a b n : ℕ) → max a b ≤ n → b ≤ n
second_below a b n h = omega (arith, h, le-max_right a b)

module _ (n : ℕ) where
  abbrev CallWithin : Option PendingCall → Type 0
  CallWithin None = Unit
  CallWithin (Some p) = pending_bound p ≤ n

  abbrev ElementWithin : Option Tree → Type 0
  ElementWithin None = Unit
  ElementWithin (Some t) = cell_bound t ≤ n

  -- what a call holds
  module _ (p : PendingCall) (h : pending_bound p ≤ n) where
    pointer_within : cell_bound (tree (dynamic.Pointer p.pointer)) ≤ n
    pointer_within =
        first_below (cell_bound (tree (dynamic.Pointer p.pointer)))
        (max (cell_bound (array (pack p.elements))) (cell_bound (array (pack p.answers)))) n h

    others : max (cell_bound (array (pack p.elements))) (cell_bound (array (pack p.answers))) ≤ n
    others =
        second_below (cell_bound (tree (dynamic.Pointer p.pointer)))
        (max (cell_bound (array (pack p.elements))) (cell_bound (array (pack p.answers)))) n h

    elements_within : cell_bound (array (pack p.elements)) ≤ n
    elements_within =
        first_below (cell_bound (array (pack p.elements))) (cell_bound (array (pack p.answers))) n
        others

    answers_within : cell_bound (array (pack p.answers)) ≤ n
    answers_within =
        second_below (cell_bound (array (pack p.elements))) (cell_bound (array (pack p.answers))) n
        others

  call_of : (p : PendingCall) → cell_bound (tree (dynamic.Pointer p.pointer)) ≤ n →
      cell_bound (array (pack p.elements)) ≤ n → cell_bound (array (pack p.answers)) ≤ n →
      pending_bound p ≤ n
  call_of p x y z =
      max-le {a = cell_bound (tree (dynamic.Pointer p.pointer))}
      {b = max (cell_bound (array (pack p.elements))) (cell_bound (array (pack p.answers)))} x
      (max-le {a = cell_bound (array (pack p.elements))} {b = cell_bound (array (pack p.answers))}
      y z)

  element_within : (ts : List Tree) (i : ℕ) → items_bound (pack ts) ≤ n →
      ElementWithin (slice_get ts i)
  element_within [] i h = tt
  element_within (t ∷ ts) zero h = first_below (cell_bound t) (items_bound (pack ts)) n h
  element_within (t ∷ ts) (suc i) h =
      element_within ts i (second_below (cell_bound t) (items_bound (pack ts)) n h)

  next_within : (token : ℕ) (p : PendingCall) (o : Option Tree) → pending_bound p ≤ n →
      ElementWithin o → reply_bound (next_reply token p o) ≤ n
  next_within token p None h e = answers_within p h
  next_within token p (Some t) h e =
      max-le {a = cell_bound (tree (dynamic.Pointer p.pointer))}
      {b = cell_bound (array (pack (t ∷ [])))} (pointer_within p h)
      (max-le {a = cell_bound t} {b = 0} e (omega arith))

  -- a call that begins
  by_within : (token : ℕ) (u v : Dynamic) → cell_bound (tree u) ≤ n → cell_bound (tree v) ≤ n →
      CallWithin (mapped_by token u v)
  by_within token (dynamic.Array ts) (dynamic.Pointer p) x y =
      call_of (record { token = token; pointer = p; elements = ts; answers = [] }) y x (omega arith)
  by_within token u v x y = tt

  pub mapped_within : (token : ℕ) (vs : List Dynamic) → arguments_bound vs ≤ n →
      CallWithin (mapped token vs)
  mapped_within token [] h = tt
  mapped_within token (u ∷ []) h = tt
  mapped_within token (u ∷ v ∷ []) h =
      let rest = second_below (cell_bound (tree u)) (max (cell_bound (tree v)) 0) n h in
      by_within token u v (first_below (cell_bound (tree u)) (max (cell_bound (tree v)) 0) n h)
      (first_below (cell_bound (tree v)) 0 n rest)
  mapped_within token (u ∷ v ∷ w ∷ vs) h = tt

  pub start_within : (call : Option PendingCall) → CallWithin call →
      reply_bound (start_reply call) ≤ n
  start_within None h = omega arith
  start_within (Some p) h =
      next_within p.token p (slice_get p.elements 0) h
      (element_within p.elements 0 (elements_within p h))

  -- what is kept of it
  one_more : (ps : List PendingCall) (p : PendingCall) → waiting_bound ps ≤ n →
      pending_bound p ≤ n → waiting_bound (ps ++ p ∷ []) ≤ n
  one_more [] p x y = max-le {a = pending_bound p} {b = 0} y (omega arith)
  one_more (q ∷ ps) p x y =
      max-le {a = pending_bound q} {b = waiting_bound (ps ++ p ∷ [])}
      (first_below (pending_bound q) (waiting_bound ps) n x)
      (one_more ps p (second_below (pending_bound q) (waiting_bound ps) n x) y)

  kept_within : (p : PendingCall) (o : Option Tree) (s : Tokens) → waiting_bound s.pending ≤ n →
      pending_bound p ≤ n → waiting_bound (keeps_call p o s).pending ≤ n
  kept_within p None s x y = x
  kept_within p (Some t) s x y = one_more s.pending p x y

  pub started_within : (call : Option PendingCall) (s : Tokens) → waiting_bound s.pending ≤ n →
      CallWithin call → waiting_bound (started call s).pending ≤ n
  started_within None s x y = x
  started_within (Some p) s x y = kept_within p (slice_get p.elements 0) s x y

  -- a call that goes on
  answered_within : (token : ℕ) (v : Dynamic) (p : PendingCall) → pending_bound p ≤ n →
      cell_bound (tree v) ≤ n → pending_bound (answered token v p) ≤ n
  answered_within token v p h e =
      call_of (answered token v p) (pointer_within p h) (elements_within p h)
      (longer_within p.answers (tree v) n (answers_within p h) e)

  pub outcome_within : (token : ℕ) (call : Option PendingCall) (outcome : Outcome) →
      CallWithin call → outcome_bound outcome ≤ n →
      reply_bound (outcome_reply token call outcome) ≤ n
  outcome_within token None outcome h e = omega arith
  outcome_within token (Some p) (Value v) h e =
      next_within token (answered token v p) (next_of p) (answered_within token v p h e)
      (later p h) where
        later : (p : PendingCall) → pending_bound p ≤ n → ElementWithin (next_of p)
        later p h = element_within p.elements _ (elements_within p h)
  outcome_within token (Some p) (Fault x) h e = e

  there_within : (ps : List PendingCall) (i : ℕ) → waiting_bound ps ≤ n →
      CallWithin (slice_get ps i)
  there_within [] i h = tt
  there_within (p ∷ ps) zero h = first_below (pending_bound p) (waiting_bound ps) n h
  there_within (p ∷ ps) (suc i) h =
      there_within ps i (second_below (pending_bound p) (waiting_bound ps) n h)

  pub at_within : (s : Tokens) (place : Option ℕ) → waiting_bound s.pending ≤ n →
      CallWithin (call_at s place)
  at_within s None h = tt
  at_within s (Some i) h = there_within s.pending i h

  -- what is left
  one_less : (ps : List PendingCall) (i : ℕ) → waiting_bound ps ≤ n →
      waiting_bound (remove ps i) ≤ n
  one_less [] zero h = h
  one_less [] (suc i) h = h
  one_less (p ∷ ps) zero h = second_below (pending_bound p) (waiting_bound ps) n h
  one_less (p ∷ ps) (suc i) h =
      max-le {a = pending_bound p} {b = waiting_bound (remove ps i)}
      (first_below (pending_bound p) (waiting_bound ps) n h)
      (one_less ps i (second_below (pending_bound p) (waiting_bound ps) n h))

  one_answered : (token : ℕ) (v : Dynamic) (ps : List PendingCall) (i : ℕ) → waiting_bound ps ≤ n →
      cell_bound (tree v) ≤ n → waiting_bound (renewed i (answered token v) ps) ≤ n
  one_answered token v [] i h e = h
  one_answered token v (p ∷ ps) zero h e =
      max-le {a = pending_bound (answered token v p)} {b = waiting_bound ps}
      (answered_within token v p (first_below (pending_bound p) (waiting_bound ps) n h) e)
      (second_below (pending_bound p) (waiting_bound ps) n h)
  one_answered token v (p ∷ ps) (suc i) h e =
      max-le {a = pending_bound p} {b = waiting_bound (renewed i (answered token v) ps)}
      (first_below (pending_bound p) (waiting_bound ps) n h)
      (one_answered token v ps i (second_below (pending_bound p) (waiting_bound ps) n h) e)

  asked_within : (i : ℕ) (v : Dynamic) (o : Option Tree) (s : Tokens) →
      waiting_bound s.pending ≤ n → cell_bound (tree v) ≤ n →
      waiting_bound (asks_next i v o s).pending ≤ n
  asked_within i v None s h e = one_less s.pending i h
  asked_within i v (Some t) s h e = one_answered s.given v s.pending i h e

  pub goes_within : (place : Option ℕ) (outcome : Outcome) (s : Tokens) →
      waiting_bound s.pending ≤ n → outcome_bound outcome ≤ n →
      waiting_bound (goes_on place outcome s).pending ≤ n
  goes_within None outcome s h e = h
  goes_within (Some i) (Value v) s h e =
      asked_within i v (next_asked (slice_get s.pending i) (Value v)) s h e
  goes_within (Some i) (Fault x) s h e = one_less s.pending i h

  pub gone_within : (place : Option ℕ) (s : Tokens) → waiting_bound s.pending ≤ n →
      waiting_bound (gone place s).pending ≤ n
  gone_within None s h = h
  gone_within (Some i) s h = one_less s.pending i h
