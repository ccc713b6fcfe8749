-- What was read, as the definition has it.
use Rattle.std.specs.Prelude.{◌<◌, Result, Ok, Err}
use Rattle.grain_program.specs.View.{view_of}
use Rattle.grain_program.specs.Recorded.{HasOrder}
use Rattle.grain_listing.specs.Reading.{ListingView}
use Rattle.grain_listing.specs.declared.listings.Listing.{Listing}
use Rattle.grain_listing.specs.declared.reasons.BadLine.{BadLine}

abbrev pub set_up_of : Listing → ListingView
set_up_of s = record {
  parts = view_of s.parts;
  limits = s.limits;
  fast_operators = s.fast_operators;
  strict_properties = s.strict_properties;
  host = s.host;
  scope = s.scope;
}

-- the set-up may be verified and run: positions are in order, and at least one operation is allowed
pub record IsReady (s : Listing) : Type 0 where
  pub ordered : HasOrder (view_of s.parts)
  pub allowed : 0 < s.limits.operations

abbrev pub outcome : Result Listing BadLine → Result ListingView BadLine
outcome (Ok s) = Ok (set_up_of s)
outcome (Err e) = Err e
