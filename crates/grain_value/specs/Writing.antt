-- The kinds, the type names and the texts of values.
use Rattle.std.specs.Prelude.{ℕ, ℤ, ◌/◌, ◌%◌, Bool, true, false, List, [], ◌∷◌, ◌++◌, codes}
use Rattle.std.specs.Fmt.{decimal, signed_decimal, digit_glyph}
use Rattle.std.specs.List.{flat_map}
use Rattle.std.specs.Char.{encode_utf8}
use Rattle.grain_value.specs.Quoting.{quoted_text, quoted_character}
use Rattle.grain_value.specs.Tree.{Tree, Trees, Fields, unit, boolean, integer, character, text, array, blob, dict, pointer, range, foreign, cell, no_trees, more_trees, no_fields, more_fields}
use Rattle.grain_value.specs.View.{tree}
use Rattle.grain_value.specs.declared.values.Dynamic.{Dynamic}
use Rattle.grain_value.specs.declared.values.Dynamic.TheVariants as dynamic

-- the kind of a value; that of a cell is the kind of its content, which is asked instead
abbrev pub kind_of : Dynamic → ℕ
kind_of dynamic.Unit = 0
kind_of (dynamic.Bool b) = 1
kind_of (dynamic.Int n) = 2
kind_of (dynamic.Char c) = 3
kind_of (dynamic.Text t) = 4
kind_of (dynamic.Array ts) = 5
kind_of (dynamic.Blob s) = 6
kind_of (dynamic.Map es) = 7
kind_of (dynamic.Pointer p) = 8
kind_of (dynamic.Range from to inclusive) = 9
kind_of (dynamic.Foreign kind number) = kind
kind_of (dynamic.Cell number) = 0

-- the name of the type of a host's values of a kind
abbrev pub foreign_name : ℕ → List ℕ
foreign_name kind = codes "foreign(" ++ decimal kind ++ codes ")"

-- the name of the type of a value, of which the same is so
abbrev pub type_name_of : Dynamic → List ℕ
type_name_of dynamic.Unit = codes "()"
type_name_of (dynamic.Bool b) = codes "bool"
type_name_of (dynamic.Int n) = codes "i64"
type_name_of (dynamic.Char c) = codes "char"
type_name_of (dynamic.Text t) = codes "string"
type_name_of (dynamic.Array ts) = codes "array"
type_name_of (dynamic.Blob s) = codes "blob"
type_name_of (dynamic.Map es) = codes "map"
type_name_of (dynamic.Pointer p) = codes "Fn"
type_name_of (dynamic.Range from to inclusive) = codes "range"
type_name_of (dynamic.Foreign kind number) = foreign_name kind
type_name_of (dynamic.Cell number) = codes "()"

abbrev pub truth : Bool → List ℕ
truth true = codes "true"
truth false = codes "false"

-- a byte as two digits of base 16
abbrev pub hex_byte : ℕ → List ℕ
hex_byte b = digit_glyph false (b / 16) ∷ digit_glyph false (b % 16) ∷ []

abbrev pub quoted_blob : List ℕ → List ℕ
quoted_blob s = codes "blob(" ++ flat_map hex_byte s ++ codes ")"

abbrev pub range_word : Bool → List ℕ
range_word true = codes "range=("
range_word false = codes "range("

abbrev pub quoted_range : ℤ → ℤ → Bool → List ℕ
quoted_range from to inclusive =
    range_word inclusive ++ signed_decimal from ++ codes ", " ++ signed_decimal to ++ codes ")"

abbrev pub quoted_foreign : ℕ → ℕ → List ℕ
quoted_foreign kind number =
    codes "foreign(" ++ decimal kind ++ codes ", " ++ decimal number ++ codes ")"

abbrev pub quoted_cell : ℕ → List ℕ
quoted_cell number = codes "cell(" ++ decimal number ++ codes ")"

-- the text that a listing has for the value; a listing has no cells
abbrev mutual
  pub quoted_tree : Tree → List ℕ
  quoted_tree unit = codes "()"
  quoted_tree (boolean b) = truth b
  quoted_tree (integer n) = signed_decimal n
  quoted_tree (character c) = quoted_character c
  quoted_tree (text s) = quoted_text s
  quoted_tree (array ts) = codes "[" ++ items_text [] ts ++ codes "]"
  quoted_tree (blob s) = quoted_blob s
  quoted_tree (dict es) = codes "#{" ++ fields_text [] es ++ codes "}"
  quoted_tree (pointer name ts) =
      codes "fn(" ++ quoted_text name ++ items_text (codes ", ") ts ++ codes ")"
  quoted_tree (range a b i) = quoted_range a b i
  quoted_tree (foreign k n) = quoted_foreign k n
  quoted_tree (cell n) = quoted_cell n

  -- each value after the lead, which is a comma from the second on
  pub items_text : List ℕ → Trees → List ℕ
  items_text lead no_trees = []
  items_text lead (more_trees t ts) = lead ++ quoted_tree t ++ items_text (codes ", ") ts

  -- each key with its value, after the lead
  pub fields_text : List ℕ → Fields → List ℕ
  fields_text lead no_fields = []
  fields_text lead (more_fields k t es) =
      lead ++ quoted_text k ++ codes ": " ++ quoted_tree t ++ fields_text (codes ", ") es

abbrev pub quoted : Dynamic → List ℕ
quoted v = quoted_tree (tree v)

-- the same, but unit is empty, and a text or a character is as it stands
abbrev pub plain : Dynamic → List ℕ
plain dynamic.Unit = []
plain (dynamic.Bool b) = truth b
plain (dynamic.Int n) = signed_decimal n
plain (dynamic.Char c) = encode_utf8 c
plain (dynamic.Text t) = t
plain (dynamic.Array ts) = quoted (dynamic.Array ts)
plain (dynamic.Blob s) = quoted_blob s
plain (dynamic.Map es) = quoted (dynamic.Map es)
plain (dynamic.Pointer p) = quoted (dynamic.Pointer p)
plain (dynamic.Range from to inclusive) = quoted_range from to inclusive
plain (dynamic.Foreign kind number) = quoted_foreign kind number
plain (dynamic.Cell number) = quoted_cell number
