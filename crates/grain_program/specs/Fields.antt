-- The kinds of operands that an instruction's bytes have, and how many bytes each has.
use Rattle.std.specs.Prelude.{ℕ, ◌<◌, ◌^◌, ◌+◌, ◌&&◌, Bool, true, List, [], ◌∷◌, Option, Some, None}
use Rattle.grain_program.specs.declared.code.fields.Field.{Field}
use Rattle.grain_program.specs.declared.code.fields.Field.TheVariants as field

-- one byte, two or four
pub data Size : Type 0 where
  one : Size
  two : Size
  four : Size

abbrev pub bytes_of : Size → ℕ
bytes_of one = 1
bytes_of two = 2
bytes_of four = 4

-- the size of an operand of the kind
abbrev pub size_of : Field → Size
size_of (field.Constant n) = two
size_of (field.Name n) = two
size_of (field.Assignment n) = two
size_of (field.Chain n) = two
size_of (field.Switch n) = two
size_of (field.Token n) = two
size_of (field.Slot n) = two
size_of (field.Target n) = four
size_of (field.Count n) = one
size_of (field.Number n) = two

-- the number that stands in the operand's bytes
abbrev pub number_of : Field → ℕ
number_of (field.Constant n) = n
number_of (field.Name n) = n
number_of (field.Assignment n) = n
number_of (field.Chain n) = n
number_of (field.Switch n) = n
number_of (field.Token n) = n
number_of (field.Slot n) = n
number_of (field.Target n) = n
number_of (field.Count n) = n
number_of (field.Number n) = n

-- how many bytes operands of these sizes have together
abbrev pub span : List Size → ℕ
span [] = 0
span (s ∷ ss) = bytes_of s + span ss

-- the number fits the size
abbrev pub NumberFits : Size → ℕ → Type 0
NumberFits one n = n < 256
NumberFits two n = n < 2 ^ 16
NumberFits four n = n < 2 ^ 32

-- the operand's number fits its bytes
abbrev pub FieldFits : Field → Type 0
FieldFits f = NumberFits (size_of f) (number_of f)

-- the addresses among the operands
abbrev pub targets_of : List Field → List ℕ
targets_of [] = []
targets_of (field.Constant n ∷ fs) = targets_of fs
targets_of (field.Name n ∷ fs) = targets_of fs
targets_of (field.Assignment n ∷ fs) = targets_of fs
targets_of (field.Chain n ∷ fs) = targets_of fs
targets_of (field.Switch n ∷ fs) = targets_of fs
targets_of (field.Token n ∷ fs) = targets_of fs
targets_of (field.Slot n ∷ fs) = targets_of fs
targets_of (field.Target n ∷ fs) = n ∷ targets_of fs
targets_of (field.Count n ∷ fs) = targets_of fs
targets_of (field.Number n ∷ fs) = targets_of fs

-- the first name among the operands, if there is one
abbrev pub name_in : List Field → Option ℕ
name_in [] = None
name_in (field.Constant n ∷ fs) = name_in fs
name_in (field.Name n ∷ fs) = Some n
name_in (field.Assignment n ∷ fs) = name_in fs
name_in (field.Chain n ∷ fs) = name_in fs
name_in (field.Switch n ∷ fs) = name_in fs
name_in (field.Token n ∷ fs) = name_in fs
name_in (field.Slot n ∷ fs) = name_in fs
name_in (field.Target n ∷ fs) = name_in fs
name_in (field.Count n ∷ fs) = name_in fs
name_in (field.Number n ∷ fs) = name_in fs

-- the first chain among the operands, if there is one
abbrev pub chain_in : List Field → Option ℕ
chain_in [] = None
chain_in (field.Constant n ∷ fs) = chain_in fs
chain_in (field.Name n ∷ fs) = chain_in fs
chain_in (field.Assignment n ∷ fs) = chain_in fs
chain_in (field.Chain n ∷ fs) = Some n
chain_in (field.Switch n ∷ fs) = chain_in fs
chain_in (field.Token n ∷ fs) = chain_in fs
chain_in (field.Slot n ∷ fs) = chain_in fs
chain_in (field.Target n ∷ fs) = chain_in fs
chain_in (field.Count n ∷ fs) = chain_in fs
chain_in (field.Number n ∷ fs) = chain_in fs

-- the first switch among the operands, if there is one
abbrev pub switch_in : List Field → Option ℕ
switch_in [] = None
switch_in (field.Constant n ∷ fs) = switch_in fs
switch_in (field.Name n ∷ fs) = switch_in fs
switch_in (field.Assignment n ∷ fs) = switch_in fs
switch_in (field.Chain n ∷ fs) = switch_in fs
switch_in (field.Switch n ∷ fs) = Some n
switch_in (field.Token n ∷ fs) = switch_in fs
switch_in (field.Slot n ∷ fs) = switch_in fs
switch_in (field.Target n ∷ fs) = switch_in fs
switch_in (field.Count n ∷ fs) = switch_in fs
switch_in (field.Number n ∷ fs) = switch_in fs

-- each operand passes the test
abbrev pub every : (Field → Bool) → List Field → Bool
every test [] = true
every test (f ∷ fs) = test f && every test fs

-- the operands that are there, of places for some
abbrev pub present : List (Option Field) → List Field
present [] = []
present (None ∷ places) = present places
present (Some f ∷ places) = f ∷ present places
