-- What an index names in a value: an integer one of its elements, bytes, characters or bits, and a
-- text a key.
use Rattle.std.specs.Prelude.{ℕ, ◌+◌, ◌-◌, ℤ, pos, negsuc, nat_lt, Bool, List, Option, Some, None, Result, Ok, Err, length, is_some, if◌then◌else◌}
use Rattle.std.specs.Str.{chars}
use Rattle.grain_value.specs.Maps.{Entries, entry_at}
use Rattle.grain_value.specs.declared.values.Dynamic.{Dynamic}
use Rattle.grain_value.specs.declared.values.Dynamic.TheVariants as dynamic
use Rattle.grain_value.specs.declared.values.locating.Spot.{Spot}
use Rattle.grain_value.specs.declared.values.locating.Spot.TheVariants as spot
use Rattle.grain_value.specs.declared.values.value_faults.ValueFault.{ValueFault}
use Rattle.grain_value.specs.declared.values.value_faults.ValueFault.TheVariants as fault

-- which of n entries an integer names: from 0 on, and a negative one counts from the end
abbrev pub entry_index : ℕ → ℤ → Option ℕ
entry_index n (pos i) = if nat_lt i n then Some i else None
entry_index n (negsuc i) = if nat_lt i n then Some (n - (i + 1)) else None

abbrev pub or_bounds : ℕ → ℤ → Option ℕ → Result ℕ ValueFault
or_bounds n i (Some k) = Ok k
or_bounds n i None = Err (fault.Bounds n i)

-- which of n entries an index names
abbrev pub located_among : ℕ → Dynamic → Result ℕ ValueFault
located_among n (dynamic.Int i) = or_bounds n i (entry_index n i)
located_among n v = Err fault.WrongType

abbrev pub spot_at : (ℕ → Spot) → Result ℕ ValueFault → Result Spot ValueFault
spot_at spot (Ok k) = Ok (spot k)
spot_at spot (Err e) = Err e

-- a key of a map
abbrev pub located_key : Entries → Dynamic → Result Spot ValueFault
located_key es (dynamic.Text key) = if is_some (entry_at key es) then Ok spot.Key else Err
    fault.NoKey
located_key es v = Err fault.WrongType

-- what an index names in a value
abbrev pub locate : Dynamic → Dynamic → Result Spot ValueFault
locate (dynamic.Array ts) v = spot_at spot.Item (located_among (length ts) v)
locate (dynamic.Blob s) v = spot_at spot.Byte (located_among (length s) v)
locate (dynamic.Text s) v = spot_at spot.Character (located_among (length (chars s)) v)
locate (dynamic.Int n) v = spot_at spot.Bit (located_among 64 v)
locate (dynamic.Map es) v = located_key es v
locate d v = Err fault.NotIndexable
