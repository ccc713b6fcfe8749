-- The values that a listing can hold.
use Rattle.std.specs.Prelude.{◌≤◌, ◌<◌, ◌^◌, ℕ, zero, suc}
use Rattle.std.specs.Char.{IsScalar}
use Rattle.std.specs.List.{AllByRecursion}
use Rattle.std.specs.Str.{IsUtf8}
use Rattle.grain_value.specs.Tree.{Tree, Trees, Fields, unit, boolean, integer, character, text, array, blob, dict, pointer, range, foreign, cell, no_trees, more_trees, no_fields, more_fields, unpack_fields}
use Rattle.grain_value.specs.Maps.{IsAscending}
use Rattle.grain_words.specs.Spelled.{IsLong}

-- The value has at most n arrays, maps and pointers inside one another. Texts, keys and names
-- are UTF-8, characters are scalar values, integers have 64 bits, bytes have 8, a host's kind has
-- 32 bits and is 16 or more, its number has 64 bits, and the keys of a map ascend. No cell is listed:
-- its number means nothing without its store.
abbrev mutual
  pub IsListed : ℕ → Tree → Type 0
  IsListed levels unit = Unit {0}
  IsListed levels (boolean b) = Unit {0}
  IsListed levels (integer z) = IsLong z
  IsListed levels (character c) = IsScalar c
  IsListed levels (text s) = IsUtf8 s
  IsListed zero (array ts) = ⊥
  IsListed (suc levels) (array ts) = AreListed levels ts
  IsListed levels (blob s) = AllByRecursion (λ b. b < 2 ^ 8) s
  IsListed zero (dict es) = ⊥
  IsListed (suc levels) (dict es) = FieldsAreListed levels es × IsAscending (unpack_fields es)
  IsListed zero (pointer name ts) = ⊥
  IsListed (suc levels) (pointer name ts) = IsUtf8 name × AreListed levels ts
  IsListed levels (range from to inclusive) = IsLong from × IsLong to
  IsListed levels (foreign kind number) =
      (16 ≤ kind) × ((kind < 2 ^ 32) × (number < 2 ^ 64))
  IsListed levels (cell n) = ⊥

  pub AreListed : ℕ → Trees → Type 0
  AreListed levels no_trees = Unit {0}
  AreListed levels (more_trees t ts) = IsListed levels t × AreListed levels ts

  pub FieldsAreListed : ℕ → Fields → Type 0
  FieldsAreListed levels no_fields = Unit {0}
  FieldsAreListed levels (more_fields k t es) =
      IsUtf8 k × (IsListed levels t × FieldsAreListed levels es)
