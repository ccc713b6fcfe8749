-- Reads and puts, one after another.
use Rattle.std.proofs.Common.{◌≡◌, ◌<◌, ◌≤◌, ℕ, zero, suc, ◌+◌, ◌-◌, List, [], ◌++◌, length, take, min, refl, sym, subst, arith}
use Rattle.std.proofs.lemmas.List.{length-take}
use Rattle.grain_streams.specs.Reads.{AllGot, none, another, IsRoom}
use Rattle.grain_streams.specs.declared.sources.Read.{Read}
use Rattle.grain_streams.specs.declared.sources.Read.TheVariants.{Got}
use Rattle.grain_streams.proofs.Takes.{taken_length}

-- a slice of as many bytes as may still come, and at most as many as the buffer has
pub is_room : (most count room : ℕ) (buffer : List ℕ) → count ≤ most → length buffer ≡ 4096 →
    room ≡ min (most + 1 - count) 4096 → IsRoom (most + 1) count (length (take room buffer))
is_room most count room buffer more size is = (
  omega (arith, length-take {A = ℕ}),
  omega (arith, length-take {A = ℕ}),
)

-- nothing was read so far
pub got_none : {S : Type 0} (reads : S → ℕ → Read → S →
    Type 0) (most : ℕ) (s : S) (bytes : List ℕ) →
    bytes ≡ [] → AllGot reads most s (length bytes) s
got_none reads most s bytes is = subst (λ (b : List ℕ). AllGot reads most s (length b) s)
    (sym is) none

-- one read more
pub got_more : {S : Type 0} (reads : S → ℕ → Read → S →
    Type 0) (most room n : ℕ) (first s t : S) (bytes slice : List ℕ) →
    AllGot reads most first (length bytes) s → IsRoom most (length bytes) room →
    0 < n → n ≤ room → n ≤ length slice → reads s room (Got n) t →
    AllGot reads most first (length (bytes ++ take n slice)) t
got_more reads most room n first s t bytes slice all is some fits within read =
    subst (λ k. AllGot reads most first k t) (sym (taken_length n bytes slice within))
    (another all is some fits read)

-- a put that takes nothing only of an empty piece took something of one that is not
pub took_some : (n size : ℕ) → (n ≡ 0 → size ≡ 0) → 0 < size → 0 < n
took_some zero size empty some =
    absurd (let is : size ≡ 0 = empty refl in omega arith)
took_some (suc n) size empty some = omega arith
