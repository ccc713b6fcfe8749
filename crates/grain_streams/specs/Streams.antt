-- What a source does at a read, and a sink at a put.
use Rattle.std.specs.Prelude.{◌≡◌, ℕ, ◌+◌, ◌-◌, ◌^◌, ◌<◌, ◌≤◌, min, Bool, true, false, if◌then◌else◌, List, [], ◌++◌, length, take, Option, option_map, IfSome}
use Rattle.grain_streams.specs.declared.sources.Read.{Read}
use Rattle.grain_streams.specs.declared.sources.Read.TheVariants.{Got, End, Failed}
use Rattle.grain_streams.specs.declared.sinks.Put.{Put}
use Rattle.grain_streams.specs.declared.sinks.Put.TheVariants as put

-- one more, up to the greatest number of its type
abbrev pub one_more : ℕ → ℕ
one_more n = min (n + 1) (2 ^ 64 - 1)

-- whether a read or a put failed
abbrev pub read_failed : Read → Bool
read_failed Failed = true
read_failed answer = false

abbrev pub put_failed : Put → Bool
put_failed put.Failed = true
put_failed answer = false

-- a count of faults after another call, which failed or did not
abbrev pub faults_after : Bool → ℕ → ℕ
faults_after failed before = if failed then one_more before else before

-- the count rose, or stands at the greatest number of its type
abbrev pub Rose : ℕ → ℕ → Type 0
Rose before now = one_more before ≤ now

-- if the source says what is left, that is nothing
abbrev pub IsSpent : Option (List ℕ) → Type 0
IsSpent left = IfSome left (λ bytes. bytes ≡ [])

-- the first n bytes that were left went into the slice, and the others stay
abbrev pub Moved : ℕ → Option (List ℕ) → Option (List ℕ) → List ℕ → Type 0
Moved n before now slice = option_map (λ others. take n slice ++ others) now ≡ before

-- what a read may answer, by what was left before and is left now, and by the slice afterwards;
-- nothing for a slice with room is the end
abbrev pub WasRead : Read → Option (List ℕ) → Option (List ℕ) → List ℕ → Type 0
WasRead (Got n) before now slice = (n ≤ length slice) × Moved n before now slice ×
    (n ≡ 0 → 0 < length slice → IsSpent now)
WasRead End before now slice = (now ≡ before) × IsSpent now
WasRead Failed before now slice = now ≡ before

-- the count of faults never falls, and a read fails only where it rises
abbrev pub CountsRead : Read → ℕ → ℕ → Type 0
CountsRead Failed before now = (before ≤ now) × Rose before now
CountsRead answer before now = before ≤ now

-- what a put may answer, by what was written before and is written now: the first n bytes of the
-- piece were added, at least one of a piece that has any, or none
abbrev pub WasPut : Put → Option (List ℕ) → Option (List ℕ) → List ℕ → Type 0
WasPut (put.Took n) before now piece = (n ≤ length piece) × (n ≡ 0 → length piece ≡ 0) ×
    (now ≡ option_map (λ bytes. bytes ++ take n piece) before)
WasPut put.Failed before now piece = now ≡ before

-- the count of faults never falls, and a put fails only where it rises
abbrev pub CountsPut : Put → ℕ → ℕ → Type 0
CountsPut put.Failed before now = (before ≤ now) × Rose before now
CountsPut answer before now = before ≤ now

-- what is written and then the text, if the sink says it
abbrev pub added : List ℕ → Option (List ℕ) → Option (List ℕ)
added text before = option_map (λ bytes. bytes ++ text) before

-- only a part of the text was written: its first bytes, not all of them
pub record PartAdded (text : List ℕ) (before now : Option (List ℕ)) : Type 0 where
  pub count : ℕ
  pub part : count < length text
  pub written : now ≡ added (take count text) before

-- at most that many bytes were taken from the source, if it says what is left
abbrev pub TakenWithin : ℕ → Option (List ℕ) → Option (List ℕ) → Type 0
TakenWithin most before now = (taken : List ℕ) ×
    ((length taken ≤ most) × (option_map (λ others. taken ++ others) now ≡ before))
