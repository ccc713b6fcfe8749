-- How a text is written, put by put. `puts s piece answer t` says that a put of this piece on the
-- state s may give this answer and leave the state t.
use Rattle.std.specs.Prelude.{ℕ, ◌+◌, ◌<◌, ◌≤◌, List, length, drop}
use Rattle.grain_streams.specs.declared.sinks.Put.{Put}
use Rattle.grain_streams.specs.declared.sinks.Put.TheVariants.{Took, Failed}

-- The sink went from its first state to another by puts that each took at least one byte. Each
-- piece was what was left of the text. The number is that of the bytes.
pub data AllTook {S : Type 0} (puts : S → List ℕ → Put → S → Type 0) (text : List ℕ) (first : S) :
    ℕ → S → Type 0 where
  none : AllTook puts text first 0 first
  another : {count n : ℕ} {s t : S} → AllTook puts text first count s → 0 < n →
      count + n ≤ length text → puts s (drop count text) (Took n) t →
      AllTook puts text first (count + n) t

-- all of the text was put
abbrev pub PutWhole : {S : Type 0} → (S → List ℕ → Put → S → Type 0) → List ℕ → S → S →
    Type 0
PutWhole puts text first last = AllTook puts text first (length text) last

-- the sink failed before all of the text was put, and no put came after that
pub record PutPart {S : Type 0} (puts : S → List ℕ → Put → S → Type 0) (text : List ℕ)
    (first last : S) : Type 0 where
  pub count : ℕ
  pub before : S
  pub part : count < length text
  pub took : AllTook puts text first count before
  pub failed : puts before (drop count text) Failed last
