-- What the program does with its arguments, and the status with which it ends.
use Rattle.std.specs.Prelude.{◌≡◌, ◌≤◌, ℕ, List, Option}
use Rattle.grain_commands.specs.Replies.{Counts, Ended}
use Rattle.grain_commands.specs.Statuses.{IsReadThrough}
use Rattle.grain_streams.specs.Streams.{TakenWithin}

-- A call of the program: what was left of the source and is left now, what was written to the sink
-- and is now, if they say it, the counts of faults, and the status.
pub record Call (words : List (List ℕ)) (input left before now : Option (List ℕ)) (counts : Counts)
    (status : ℕ) : Type 0 where
  -- at most one byte more than a listing may have is read
  pub bounded : TakenWithin 16777217 input left
  -- a source whose run ended was read to its end
  pub through : IsReadThrough words status left
  pub counted : (counts.source_before ≤ counts.source_now) × (counts.sink_before ≤ counts.sink_now)
  -- the answer, and whether it was written
  pub ended : Ended words input before now counts status

-- the program was not given its words, so it reads nothing and writes nothing
pub record NoCall {S K : Type 0} (source_before source_now : S) (sink_before sink_now : K)
    (status : ℕ) : Type 0 where
  pub source : source_now ≡ source_before
  pub sink : sink_now ≡ sink_before
  pub number : status ≡ 9
