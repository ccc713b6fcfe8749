-- The registers of the host in memory: what its natives ask of them, answer and leave.
use Rattle.std.specs.Prelude.{ℕ, ℤ, pos, negsuc, nat_lt, ◌&&◌, ◌||◌, List, [], ◌∷◌, Option, Some, None, codes, bytes_eq, ◌==◌, replicate, slice_get, slice_set, option_and_then, if◌then◌else◌}
use Rattle.grain_value.specs.declared.values.Dynamic.{Dynamic}
use Rattle.grain_value.specs.declared.values.Dynamic.TheVariants as dynamic
use Rattle.grain_fault.specs.Places.{nowhere}
use Rattle.grain_fault.specs.Problems.{Plain, IndexNotFound}
use Rattle.grain_host.specs.Law.{Reply, Done, Failed}
use Rattle.grain_host.specs.declared.register_natives.Place.{Place}
use Rattle.grain_host.specs.declared.register_natives.Place.TheVariants as place
use Rattle.grain_host.specs.declared.register_natives.Access.{Access}
use Rattle.grain_host.specs.declared.register_natives.Access.TheVariants as access

-- 256 registers that hold 0
unfoldable pub cleared : List ℤ
cleared = replicate 256 (pos 0)

-- an integer that is not negative, as a number
abbrev pub number_of : ℤ → Option ℕ
number_of (pos n) = Some n
number_of (negsuc n) = None

-- an integer as the number of a register, if there is one: registers have the numbers from 0 to 255
abbrev pub register_of : ℤ → Option ℕ
register_of (pos n) = if nat_lt n 256 then Some n else None
register_of (negsuc n) = None

-- the number of the register that is named so, if there is one
abbrev pub register_at : Place → Option ℕ
register_at (place.Number n) = register_of (pos n)
register_at (place.Index i) = register_of i

-- the value that names a register so: one of kind 16, or an index of a bank
abbrev pub named_by : Place → Dynamic
named_by (place.Number n) = dynamic.Foreign 16 n
named_by (place.Index i) = dynamic.Int i

-- there is no register, or no value of the host's own, for this
abbrev pub no_index : Dynamic → Reply
no_index v = Failed (Plain (IndexNotFound v) nowhere)

-- the host's own value of a kind, if there is a number for it
abbrev pub own_reply : ℕ → Option ℕ → Dynamic → Reply
own_reply kind (Some n) v = Done (dynamic.Foreign kind n)
own_reply kind None v = no_index v

-- what a register holds, if there is one
abbrev pub read_reply : Option ℤ → Dynamic → Reply
read_reply (Some x) v = Done (dynamic.Int x)
read_reply None v = no_index v

-- a register is written, if there is one
abbrev pub write_reply : Option ℕ → Dynamic → Reply
write_reply (Some n) v = Done dynamic.Unit
write_reply None v = no_index v

-- the answer to what is asked of registers
abbrev pub access_reply : List ℤ → Access → Reply
access_reply rs (access.Register n) = own_reply 16 (register_of n) (dynamic.Int n)
access_reply rs (access.Bank n) = own_reply 17 (number_of n) (dynamic.Int n)
access_reply rs (access.WriteBank n) = own_reply 18 (number_of n) (dynamic.Int n)
access_reply rs (access.Read p) =
    read_reply (option_and_then (slice_get rs) (register_at p)) (named_by p)
access_reply rs (access.Write p x) = write_reply (register_at p) (named_by p)

-- the registers after the one of this number is written; all as they were, if there is none
abbrev pub registers_with : Option ℕ → ℤ → List ℤ → List ℤ
registers_with (Some n) x rs = slice_set rs n x
registers_with None x rs = rs

-- what is left of the registers: a write changes one of them, and nothing else changes any
abbrev pub access_leaves : List ℤ → Access → List ℤ
access_leaves rs (access.Write p x) = registers_with (register_at p) x rs
access_leaves rs a = rs

-- what the natives with one argument ask, by their keys: 6 `register`, 7 `bank` and 8 `write_bank`
-- of an integer, and 10 `get$value` of a value of kind 16
abbrev pub asked_by_one : ℕ → Dynamic → Option Access
asked_by_one key (dynamic.Int n) =
    if key == 6 then Some (access.Register n)
    else (if key == 7 then Some (access.Bank n)
    else (if key == 8 then Some (access.WriteBank n)
    else None))
asked_by_one key (dynamic.Foreign k n) =
    if (key == 10) && (k == 16) then Some (access.Read (place.Number n)) else None
asked_by_one key v = None

-- what those with two arguments ask: 11 `set$value` of a value of kind 16 and an integer, and 12
-- `index$get$` of a value of kind 17 and an index
abbrev pub asked_by_two : ℕ → Dynamic → Dynamic → Option Access
asked_by_two key (dynamic.Foreign k n) (dynamic.Int x) =
    if (key == 11) && (k == 16) then Some (access.Write (place.Number n) x)
    else (if (key == 12) && (k == 17) then Some (access.Read (place.Index x))
    else None)
asked_by_two key u v = None

-- what the one with three arguments asks: 13 `index$set$` of a value of kind 17 or 18, an index and
-- an integer
abbrev pub asked_by_three : ℕ → Dynamic → Dynamic → Dynamic → Option Access
asked_by_three key (dynamic.Foreign k n) (dynamic.Int i) (dynamic.Int x) =
    if (key == 13) && ((k == 17) || (k == 18)) then Some (access.Write (place.Index i) x) else None
asked_by_three key u v w = None

-- what the native of a key asks of the registers, if it is one of theirs and has a form for these
-- arguments
abbrev pub asked : ℕ → List Dynamic → Option Access
asked key [] = None
asked key (u ∷ []) = asked_by_one key u
asked key (u ∷ v ∷ []) = asked_by_two key u v
asked key (u ∷ v ∷ w ∷ []) = asked_by_three key u v w
asked key (u ∷ v ∷ w ∷ x ∷ vs) = None

-- what is left of them, if anything is asked at all
abbrev pub left_by : List ℤ → Option Access → List ℤ
left_by rs None = rs
left_by rs (Some a) = access_leaves rs a

-- the natives of the registers by their names and the kinds of their arguments: 2 is an integer, 16 a
-- register, 17 a bank, and 18 a bank that can only be written
abbrev pub accessor_of : List ℕ → List ℕ → Option ℕ
accessor_of name kinds =
    if bytes_eq name (codes "get$value") && bytes_eq kinds (16 ∷ []) then Some 10
    else (if bytes_eq name (codes "set$value") && bytes_eq kinds (16 ∷ 2 ∷ []) then Some 11
    else (if bytes_eq name (codes "index$get$") && bytes_eq kinds (17 ∷ 2 ∷ []) then Some 12
    else (if bytes_eq name (codes "index$set$")
    && (bytes_eq kinds (17 ∷ 2 ∷ 2 ∷ []) || bytes_eq kinds (18 ∷ 2 ∷ 2 ∷ [])) then Some 13
    else None)))

abbrev pub register_key_of : List ℕ → List ℕ → Option ℕ
register_key_of name kinds =
    if bytes_eq name (codes "register") && bytes_eq kinds (2 ∷ []) then Some 6
    else (if bytes_eq name (codes "bank") && bytes_eq kinds (2 ∷ []) then Some 7
    else (if bytes_eq name (codes "write_bank") && bytes_eq kinds (2 ∷ []) then Some 8
    else accessor_of name kinds))
