-- What was taken from a source, read by read.
use Rattle.std.proofs.Common.{◌≡◌, ◌≤◌, ℕ, ◌+◌, List, ◌++◌, length, length-append, take, Option, Some, None, option_map, refl, ap, ◌∙◌, append_assoc}
use Rattle.std.proofs.lemmas.List.{length-take-le}
use Rattle.grain_streams.specs.Streams.{Moved}

together : (s t : List ℕ) (now : Option (List ℕ)) →
    option_map (λ others. (s ++ t) ++ others) now ≡ option_map (λ others. s ++ others)
    (option_map (λ others. t ++ others) now)
together s t None = refl
together s t (Some o) = ap Some (append_assoc s t o)

-- one read more
pub taken_more : (n : ℕ) (bytes slice : List ℕ) (old middle now : Option (List ℕ)) →
    option_map (λ others. bytes ++ others) middle ≡ old → Moved n middle now slice →
    option_map (λ others. (bytes ++ take n slice) ++ others) now ≡ old
taken_more n bytes slice old middle now before more =
    together bytes (take n slice) now ∙ ap (λ x. option_map (λ others. bytes ++ others) x) more ∙
    before

-- and as many bytes more
pub taken_length : (n : ℕ) (bytes slice : List ℕ) → n ≤ length slice →
    length (bytes ++ take n slice) ≡ length bytes + n
taken_length n bytes slice fits = length-append bytes (take n slice) ∙
    ap (λ k. length bytes + k) (length-take-le n slice fits)
