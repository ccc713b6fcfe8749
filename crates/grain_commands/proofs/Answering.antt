-- What is answered, by what the steps on the way say.
use Rattle.std.proofs.Common.{◌≡◌, ◌≢◌, ◌⊎◌, ◌<◌, ◌≤◌, ◌++◌, inl, inr, ℕ, Bool, true, List, [], length, Option, Some, None, option_map, nat_lt, lt-ltb, append-nil, length-append, arith, Result, Ok, Err, IfOk, IfSome, refl, sym, ap, ◌∙◌, subst}
use Rattle.grain_value.specs.declared.memory.OutOfMemory.{OutOfMemory}
use Rattle.grain_program.specs.View.{View}
use Rattle.grain_program.specs.Typing.{IsProgram, IsRefusal}
use Rattle.grain_program.specs.declared.verifier.refusals.Refusal.{Refusal}
use Rattle.grain_program.specs.declared.verifier.refusals.Refusal.TheVariants as refusals
use Rattle.std.proofs.lemmas.Bool.{cases_lt}
use Rattle.grain_streams.specs.Streams.{IsSpent}
use Rattle.grain_literals.specs.declared.reasons.Reason.TheVariants.{TooLong}
use Rattle.grain_listing.specs.Reading.{ListingView, reads, bad_line, most_bytes}
use Rattle.grain_commands.specs.Replies.{Replies, no_listing, refused, reported, bad_line_text, refusal_text}
use Rattle.grain_commands.specs.Runs.{Reported, engine_of, start}
use Rattle.grain_listing.specs.declared.reasons.BadLine.{BadLine}
use Rattle.grain_commands.specs.declared.replies.Reply.{Reply}

pub answers_reason : (told : Bool) (said : Result ListingView BadLine) (e : BadLine)
    (r : Result Reply OutOfMemory) →
    IfOk r (λ x. x.status ≡ 3) → IfOk r (λ x. x.text ≡ bad_line_text e) → Err e ≡ said →
    IfOk r (λ x. Replies told said x.status x.text)
answers_reason told said e (Err m) status text is = tt
answers_reason told said e (Ok x) status text is = rw (status, text) (no_listing (sym is))

is_refusal : (p : View) (r : Refusal) → r ≢ refusals.Memory → (r ≡ refusals.Memory) ⊎
    IsRefusal p r →
    IsRefusal p r
is_refusal p r other (inl e) = absurd (other e)
is_refusal p r other (inr h) = h

pub answers_refusal : (told : Bool) (s : ListingView) (e : Refusal) (r : Result Reply OutOfMemory) →
    IfOk r (λ x. x.status ≡ 4) → IfOk r (λ x. x.text ≡ refusal_text e) →
    IfOk r (λ x. e ≢ refusals.Memory) →
    (IsProgram s.parts → e ≡ refusals.Memory) → (e ≡ refusals.Memory) ⊎ IsRefusal s.parts e →
    IfOk r (λ x. Replies told (Ok s) x.status x.text)
answers_refusal told s e (Err m) status text other complete first = tt
answers_refusal told s e (Ok x) status text other complete first =
    rw (status, text) (refused refl (λ p. other (complete p)) (is_refusal s.parts e other first))

pub answers_end : (told : Bool) (s : ListingView) (r : Result Reply OutOfMemory) → IsProgram s.parts →
    IfOk r (λ x. Reported told s.parts (engine_of s.limits s.fast_operators s.strict_properties)
    (start s.scope s.host)
    x.status x.text) →
    IfOk r (λ x. Replies told (Ok s) x.status x.text)
answers_end told s (Err m) valid ends = tt
answers_end told s (Ok x) valid ends = reported refl valid ends

too_long : (bytes : List ℕ) → 16777216 < length bytes → reads bytes ≡ Err (bad_line 0 TooLong)
too_long bytes h =
    let long : nat_lt most_bytes (length bytes) ≡ true = lt-ltb _ _ h in
    rw long refl

split_reading : (v others : List ℕ) → (length v ≤ 16777216 → others ≡ []) →
    ((16777216 < length v) ⊎ (length v ≤ 16777216)) → reads (v ++ others) ≡ reads v
split_reading v others spent (inl long) =
    let all : 16777216 < length (v ++ others) = omega (arith, length-append v others) in
    too_long (v ++ others) all ∙ sym (too_long v long)
split_reading v others spent (inr short) = ap (λ x. reads (v ++ x)) (spent short) ∙
    ap reads (append-nil v)

told_reading : (v : List ℕ) (now : Option (List ℕ)) → (length v ≤ 16777216 → IsSpent now) →
    IfSome (option_map (λ others. v ++ others) now) (λ bytes. reads bytes ≡ reads v)
told_reading v None spent = tt
told_reading v (Some others) spent = split_reading v others spent (cases_lt 16777216 (length v))

-- what was read says what all that was left says
pub same_reading : (v : List ℕ) (now before : Option (List ℕ)) →
    option_map (λ others. v ++ others) now ≡ before → (length v ≤ 16777216 → IsSpent now) →
    IfSome before (λ bytes. reads bytes ≡ reads v)
same_reading v now before all spent = subst
    (λ (o : Option (List ℕ)). IfSome o (λ bytes. reads bytes ≡ reads v)) all
    (told_reading v now spent)
