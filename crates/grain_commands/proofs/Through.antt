-- A source whose bytes said a listing was read to its end.
use Rattle.std.proofs.Common.{◌≡◌, ◌≤◌, ℕ, Bool, true, false, cond, List, length, Option, Result, Ok, Err, nat_lt, refl, arith}
use Rattle.std.proofs.lemmas.Bool.Decides.{nat_tests}
use Rattle.grain_listing.specs.Reading.{ListingView, reads, most_bytes}
use Rattle.grain_commands.specs.Replies.{Replies, no_listing, refused, reported}
use Rattle.grain_commands.specs.Statuses.{IsReadThrough}
use Rattle.grain_streams.specs.Streams.{IsSpent}
use Rattle.grain_listing.specs.declared.reasons.BadLine.{BadLine}

no_error : (b : Bool) (e : BadLine) (other : Result ListingView BadLine) (s : ListingView) →
    cond b (Err e) other ≡ Ok s → b ≡ false
no_error true e other s h = absurd cc
no_error false e other s h = refl

within : (bytes : List ℕ) → nat_lt most_bytes (length bytes) ≡ false → length bytes ≤ 16777216
within bytes h = grind (arith, nat_tests)

-- a listing has no more bytes than a listing may have
fits : (bytes : List ℕ) (s : ListingView) → reads bytes ≡ Ok s → length bytes ≤ 16777216
fits bytes s h = within bytes (no_error (nat_lt most_bytes (length bytes)) _ _ s h)

pub read_through : (words : List (List ℕ)) (told : Bool) (bytes : List ℕ) (left : Option (List ℕ))
    (status : ℕ) (text : List ℕ) → (length bytes ≤ 16777216 → IsSpent left) →
    Replies told (reads bytes) status text → IsReadThrough words status left
read_through words told bytes left status text spent (no_listing e) = λ run h. absurd (omega arith)
read_through words told bytes left status text spent (refused e invalid first) =
    λ run h. absurd (omega arith)
read_through words told bytes left status text spent (reported {s} e valid ends) =
    λ run h. spent (fits bytes s e)
