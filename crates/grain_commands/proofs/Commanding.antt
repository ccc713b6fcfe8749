-- Which words are commands, and what a command runs.
use Rattle.std.proofs.Common.{◌≡◌, ℕ, Bool, true, false, List, [], ◌∷◌, Option, Some, None, Result, Ok, Err, IfOk, IfSome, refl, sym, subst}
use Rattle.grain_value.specs.declared.memory.OutOfMemory.{OutOfMemory}
use Rattle.grain_listing.specs.Reading.{ListingView, reads}
use Rattle.grain_listing.specs.declared.reasons.BadLine.{BadLine}
use Rattle.grain_commands.specs.declared.replies.Reply.{Reply}
use Rattle.grain_commands.specs.Replies.{Answers, Replies, is_command, is_run, listing_for, no_command, replied, tells_operations, usage_text}
use Rattle.grain_commands.specs.SelfListings.{self_listing, self_number}

-- `run` is a command, which runs what the source holds, and tells no operations
pub run_commands : (words : List (List ℕ)) → is_run words ≡ true → is_command words ≡ true
run_commands words run = rw run refl

run_is_plain : (words : List (List ℕ)) → is_run words ≡ true → self_number words ≡ None
run_is_plain [] run = absurd cc
run_is_plain (w ∷ []) run = refl
run_is_plain (w ∷ v ∷ ws) run = absurd cc

pub held : (words : List (List ℕ)) (input : Option (List ℕ)) → is_run words ≡ true →
    listing_for words input ≡ input
held words input run = rw (run_is_plain words run) refl

pub not_told : (words : List (List ℕ)) → is_run words ≡ true → tells_operations words ≡ false
not_told words run = rw (run_is_plain words run) refl

pub of_source : (words : List (List ℕ)) (input : Option (List ℕ)) → is_run words ≡ true →
    (P : List ℕ → Type 0) → IfSome input P → IfSome (listing_for words input) P
of_source words input run P h =
    subst (λ (o : Option (List ℕ)). IfSome o P) (sym (held words input run)) h

pub to_source : (words : List (List ℕ)) (input : Option (List ℕ)) → is_run words ≡ true →
    (P : List ℕ → Type 0) → IfSome (listing_for words input) P → IfSome input P
to_source words input run P h =
    subst (λ (o : Option (List ℕ)). IfSome o P) (held words input run) h

pub untold : (words : List (List ℕ)) → is_run words ≡ true → (said : Result ListingView BadLine)
    (status : ℕ) (text : List ℕ) → Replies false said status text →
    Replies (tells_operations words) said status text
untold words run said status text reply =
    subst (λ (b : Bool). Replies b said status text) (sym (not_told words run)) reply

-- words that are no command are not `run`
pub no_run : (words : List (List ℕ)) → is_command words ≡ false → is_run words ≡ true → ⊥
no_run words none run = let all = run_commands words run in absurd cc

-- words that are neither `run` nor `self` and a number
pub unknown : (words : List (List ℕ)) (input : Option (List ℕ)) → is_run words ≡ false →
    self_number words ≡ None → Answers words input 2 usage_text
unknown words input run none = no_command (rw (run, none) refl)

-- `self` and a number: the listing of that many functions
pub of_self : (words : List (List ℕ)) (input : Option (List ℕ)) (n : ℕ)
    (said : Result ListingView BadLine) (status : ℕ) (text : List ℕ) → is_run words ≡ false →
    self_number words ≡ Some n →
    reads (self_listing n) ≡ said →
    Replies true said status text → Answers words input status text
of_self words input n said status text run some is reply =
    replied {said = said} (rw (run, some) refl) (rw some is) (rw some reply)

-- the same of a reply, unless memory ran out
pub unknown_answered : (words : List (List ℕ)) (input : Option (List ℕ)) (r : Result Reply OutOfMemory) →
    is_run words ≡ false → self_number words ≡ None → IfOk r (λ x. x.status ≡ 2) →
    IfOk r (λ x. x.text ≡ usage_text) → IfOk r (λ x. Answers words input x.status x.text)
unknown_answered words input (Err m) run none status text = tt
unknown_answered words input (Ok x) run none status text =
    rw (status, text) (unknown words input run none)

pub self_answered : (words : List (List ℕ)) (input : Option (List ℕ)) (n : ℕ)
    (r : Result Reply OutOfMemory) → is_run words ≡ false → self_number words ≡ Some n →
    IfOk r (λ x. Replies true (reads (self_listing n)) x.status x.text) →
    IfOk r (λ x. Answers words input x.status x.text)
self_answered words input n (Err m) run some reply = tt
self_answered words input n (Ok x) run some reply =
    of_self words input n (reads (self_listing n)) x.status x.text run some refl reply
