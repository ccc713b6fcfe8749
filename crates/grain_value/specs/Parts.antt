-- What stands inside a value without a place of its own: the bytes of a byte string, the characters of a
-- text and the bits of an integer. Each is a copy, and is put back.
use Rattle.std.specs.Prelude.{ℕ, ◌%◌, ◌^◌, ◌==◌, ◌&&◌, ℤ, pos, nat_lt, Bool, true, false, not, List, [], Option, Some, None, slice_get, slice_set, codes, if◌then◌else◌}
use Rattle.std.specs.Int.{w64, cast_unsigned, cast_signed, bit_at}
use Rattle.std.specs.Prelude.{bit_xor}
use Rattle.std.specs.Str.{chars, encode_utf8_all}
use Rattle.grain_value.specs.declared.values.Dynamic.{Dynamic}
use Rattle.grain_value.specs.declared.values.Dynamic.TheVariants as dynamic
use Rattle.grain_value.specs.declared.values.locating.Spot.{Spot}
use Rattle.grain_value.specs.declared.values.locating.Spot.TheVariants as spot

-- whether bit k of a 64-bit integer is set
abbrev pub has_bit : ℕ → ℤ → Bool
has_bit k n = if nat_lt k 64 then bit_at (cast_unsigned w64 n) k == 1 else false

abbrev pub differs : Bool → Bool → Bool
differs true b = not b
differs false b = b

-- the integer with bit k set, or not set
abbrev pub with_bit : ℕ → Bool → ℤ → ℤ
with_bit k b n =
    if nat_lt k 64 && differs b (has_bit k n)
    then cast_signed w64 (bit_xor (cast_unsigned w64 n) (2 ^ k)) else n

-- the low eight bits of an integer
abbrev pub low_byte : ℤ → ℕ
low_byte n = cast_unsigned w64 n % 256

abbrev pub byte_value : Option ℕ → Dynamic
byte_value None = dynamic.Unit
byte_value (Some b) = dynamic.Int (pos b)

abbrev pub character_value : Option ℕ → Dynamic
character_value None = dynamic.Unit
character_value (Some x) = dynamic.Char x

-- the value at a spot that has no place of its own
abbrev pub part : Dynamic → Spot → Dynamic
part (dynamic.Blob s) (spot.Byte k) = byte_value (slice_get s k)
part (dynamic.Text s) (spot.Character k) = character_value (slice_get (chars s) k)
part (dynamic.Int n) (spot.Bit k) = dynamic.Bool (has_bit k n)
part d s = dynamic.Unit

-- a value with another one at such a spot, if that is of the type that stands there
abbrev pub with_part : Dynamic → Spot → Dynamic → Option Dynamic
with_part (dynamic.Blob s) (spot.Byte k) (dynamic.Int n) =
    Some (dynamic.Blob (slice_set s k (low_byte n)))
with_part (dynamic.Text s) (spot.Character k) (dynamic.Char x) =
    Some (dynamic.Text (encode_utf8_all (slice_set (chars s) k x)))
with_part (dynamic.Int n) (spot.Bit k) (dynamic.Bool b) = Some (dynamic.Int (with_bit k b n))
with_part d s v = None

-- what is left where a value was to be put at such a spot
abbrev pub or_unchanged : Dynamic → Option Dynamic → Dynamic
or_unchanged d None = d
or_unchanged d (Some e) = e

-- the name of the type that stands there
abbrev pub part_type : Spot → List ℕ
part_type (spot.Byte k) = codes "i64"
part_type (spot.Character k) = codes "char"
part_type (spot.Bit k) = codes "bool"
part_type s = []
