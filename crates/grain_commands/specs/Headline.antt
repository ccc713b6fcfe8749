-- The headline of the program: of a valid listing of a core program it prints the end of its run.
use Rattle.std.specs.Prelude.{◌≡◌, ℕ, true, List, Option, Some, Ok}
use Rattle.grain_host.specs.Tables.{table_law}
use Rattle.grain_host.specs.declared.tables.TableHost.{TableHost}
use Rattle.grain_program.specs.Typing.{IsProgram}
use Rattle.grain_means.specs.Means.{Finish}
use Rattle.grain_means.specs.Core.{CoreMeans, IsCore}
use Rattle.grain_listing.specs.Reading.{ListingView, reads}
use Rattle.grain_streams.specs.Streams.{added}
use Rattle.grain_commands.specs.Replies.{Counts, is_run}
use Rattle.grain_commands.specs.Runs.{engine_of, start, status_of, report}
use Rattle.grain_commands.specs.Statuses.{Gives, NoneRose}

-- the bytes are a listing, and its parts are a core program that `verify` accepts
pub record CoreListing (bytes : List ℕ) : Type 0 where
  pub set_up : ListingView
  pub said : reads bytes ≡ Ok set_up
  pub valid : IsProgram set_up.parts
  pub core : IsCore set_up.parts

-- the end of the program's run on the scope and the host that the listing says, with its limits and
-- flags, without cells and without a run before
abbrev pub CoreEnds : ListingView → Finish TableHost → Type 0
CoreEnds s end = CoreMeans table_law s.parts
    (engine_of s.limits s.fast_operators s.strict_properties) (start s.scope s.host) end

-- What a call of the program says of such a listing, where the words are `run` and the source says
-- which bytes it has.
pub record PrintsCoreEnd (words : List (List ℕ)) (input before now : Option (List ℕ))
    (counts : Counts) (status : ℕ) : Type 0 where
  -- If the status is none of 5 (a failed read), 6 (a failed write) and 7 (want of memory): what is written
  -- is the report of the run's end and nothing else, and the status is 0 for a value and 1 for a fault.
  pub prints : is_run words ≡ true → (bytes : List ℕ) → input ≡ Some bytes →
      (listing : CoreListing bytes) → (status ≡ 5 → ⊥) → (status ≡ 6 → ⊥) → (status ≡ 7 → ⊥) →
      (end : Finish TableHost) × CoreEnds listing.set_up end × (status ≡ status_of end.answer) ×
      (now ≡ added (report end) before)
  -- If neither count of faults rose: whatever end the program means, the status is that end's and its
  -- report is written, or the status is 7 and nothing is written.
  pub complete : is_run words ≡ true → NoneRose counts → (bytes : List ℕ) → input ≡ Some bytes →
      (listing : CoreListing bytes) (end : Finish TableHost) → CoreEnds listing.set_up end →
      Gives (status_of end.answer) (report end) before now status
