-- What is due for the bytes that were read of a source is due for all that it had left.
use Rattle.std.proofs.Common.{◌≡◌, ◌⊎◌, ◌<◌, ◌≤◌, ◌++◌, inl, inr, ℕ, true, List, [], length, Option, Some, None, option_map, nat_lt, lt-ltb, append-nil, length-append, chars, arith, Result, Err, refl, sym, ap, ◌∙◌, subst}
use Rattle.std.proofs.lemmas.Bool.{cases_lt}
use Rattle.grain_streams.specs.Streams.{IsSpent}
use Rattle.grain_literals.specs.declared.reasons.Reason.TheVariants.{TooLong}
use Rattle.grain_listing.specs.Reading.{ListingView, reads, bad_line, most_bytes}
use Rattle.grain_listing.specs.declared.reasons.BadLine.{BadLine}
use Rattle.grain_addresses.specs.Calls.{IsDue}
use Rattle.grain_addresses.specs.Replies.{bad_line_text, explained_status, explained_text, status_due, text_due}
use Rattle.grain_addresses.specs.declared.queries.Query.{Query}

too_long : (bytes : List ℕ) → 16777216 < length bytes → reads bytes ≡ Err (bad_line 0 TooLong)
too_long bytes h =
    let long : nat_lt most_bytes (length bytes) ≡ true = lt-ltb _ _ h in
    rw long refl

long_status : (bytes : List ℕ) (qs : List Query) → 16777216 < length bytes →
    status_due bytes qs ≡ 3
long_status bytes qs h =
    ap (λ (r : Result ListingView BadLine). explained_status r (chars bytes) qs) (too_long bytes h)

long_text : (bytes : List ℕ) (qs : List Query) → 16777216 < length bytes →
    text_due bytes qs ≡ bad_line_text (bad_line 0 TooLong)
long_text bytes qs h =
    ap (λ (r : Result ListingView BadLine). explained_text r (chars bytes) qs) (too_long bytes h)

same_due : (v others : List ℕ) (qs : List Query) → (length v ≤ 16777216 → others ≡ []) →
    ((16777216 < length v) ⊎ (length v ≤ 16777216)) →
    (status_due (v ++ others) qs ≡ status_due v qs) × (text_due (v ++ others) qs ≡ text_due v qs)
same_due v others qs spent (inl long) =
    let all : 16777216 < length (v ++ others) = omega (arith, length-append v others) in (
      long_status (v ++ others) qs all ∙ sym (long_status v qs long),
      long_text (v ++ others) qs all ∙ sym (long_text v qs long),
    )
same_due v others qs spent (inr short) =
    let whole : v ++ others ≡ v = ap (λ (x : List ℕ). v ++ x) (spent short) ∙ append-nil v in (
      ap (λ (x : List ℕ). status_due x qs) whole,
      ap (λ (x : List ℕ). text_due x qs) whole,
    )

due_now : (v : List ℕ) (left : Option (List ℕ)) (qs : List Query) (status : ℕ) (text : List ℕ) →
    (length v ≤ 16777216 → IsSpent left) → status ≡ status_due v qs → text ≡ text_due v qs →
    IsDue (option_map (λ others. v ++ others) left) qs status text
due_now v None qs status text spent s t = (v, (s, t))
due_now v (Some others) qs status text spent s t =
    let both = same_due v others qs spent (cases_lt 16777216 (length v)) in
    (s ∙ sym both.0, t ∙ sym both.1)

pub due : (v : List ℕ) (left before : Option (List ℕ)) (qs : List Query) (status : ℕ)
    (text : List ℕ) → option_map (λ others. v ++ others) left ≡ before →
    (length v ≤ 16777216 → IsSpent left) → status ≡ status_due v qs → text ≡ text_due v qs →
    IsDue before qs status text
due v left before qs status text all spent s t =
    subst (λ (o : Option (List ℕ)). IsDue o qs status text) all
    (due_now v left qs status text spent s t)
