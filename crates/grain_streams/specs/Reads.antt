-- How a source is read, read by read. `reads s room answer t` says that a read on the state s, of a
-- slice of this length, may give this answer and leave the state t.
use Rattle.std.specs.Prelude.{◌≡◌, ℕ, ◌+◌, ◌<◌, ◌≤◌, ⊤}
use Rattle.grain_streams.specs.declared.sources.Read.{Read}
use Rattle.grain_streams.specs.declared.sources.Read.TheVariants.{Got, End, Failed}

-- a read may ask for one byte or more, and for none past the most
abbrev pub IsRoom : ℕ → ℕ → ℕ → Type 0
IsRoom most count room = (0 < room) × (count + room ≤ most)

-- the answer is the end of input, or a failure
abbrev pub IsLast : Read → Type 0
IsLast (Got n) = n ≡ 0
IsLast End = ⊤
IsLast Failed = ⊤

-- The source went from its first state to another by reads that each asked for a byte or more and
-- got at least one. The number is that of the bytes.
pub data AllGot {S : Type 0} (reads : S → ℕ → Read → S → Type 0) (most : ℕ) (first : S) :
    ℕ → S → Type 0 where
  none : AllGot reads most first 0 first
  another : {count room n : ℕ} {s t : S} → AllGot reads most first count s →
      IsRoom most count room → 0 < n → n ≤ room → reads s room (Got n) t →
      AllGot reads most first (count + n) t

-- The source went from its first state to its last by reads of at most that many bytes. Each read
-- asked for a byte or more, and each but the last got at least one.
pub data ReadInTurn {S : Type 0} (reads : S → ℕ → Read → S → Type 0) (most : ℕ)
    (first last : S) : Type 0 where
  -- the last read, if any, got bytes too
  unended : {count : ℕ} → AllGot reads most first count last → ReadInTurn reads most first last
  -- the last read met the end of input, or failed
  ended : {count room : ℕ} {answer : Read} {s : S} → AllGot reads most first count s →
      IsRoom most count room → IsLast answer → reads s room answer last →
      ReadInTurn reads most first last
