-- The names to which a pointer may lead.
use Rattle.std.specs.Prelude.{◌≡◌, ℕ, Bool, true, false, List, [], ◌∷◌, Result, Ok, Err, ◌&&◌, ◌||◌, ◌==◌, nat_le, if◌then◌else◌}
use Rattle.grain_value.specs.declared.values.FnPtr.{FnPtr}
use Rattle.grain_value.specs.declared.values.value_faults.ValueFault.{ValueFault}
use Rattle.grain_value.specs.declared.values.value_faults.ValueFault.TheVariants as fault

-- an ASCII letter
abbrev pub is_letter : ℕ → Bool
is_letter c = (nat_le 65 c && nat_le c 90) || (nat_le 97 c && nat_le c 122)

-- an ASCII letter, an ASCII digit or `_`
abbrev pub is_word_byte : ℕ → Bool
is_word_byte c = is_letter c || ((nat_le 48 c && nat_le c 57) || c == 95)

abbrev pub all_word_bytes : List ℕ → Bool
all_word_bytes [] = true
all_word_bytes (c ∷ cs) = is_word_byte c && all_word_bytes cs

-- the first byte other than `_` is a letter
abbrev pub begins_with_letter : List ℕ → Bool
begins_with_letter [] = false
begins_with_letter (c ∷ cs) = if c == 95 then begins_with_letter cs else is_letter c

abbrev pub is_pointer_name : List ℕ → Bool
is_pointer_name name = begins_with_letter name && all_word_bytes name

-- a pointer of this name with no values, or that the name is none, or that memory is out
abbrev pub Named : List ℕ → Result FnPtr ValueFault → Type 0
Named name (Ok p) = (is_pointer_name name ≡ true) × (p ≡ record { name = name; curry = [] })
Named name (Err fault.BadName) = is_pointer_name name ≡ false
Named name (Err (fault.Bounds n i)) = ⊥
Named name (Err fault.NoKey) = ⊥
Named name (Err fault.NotIndexable) = ⊥
Named name (Err fault.WrongType) = ⊥
Named name (Err fault.Busy) = ⊥
Named name (Err fault.Memory) = is_pointer_name name ≡ true
