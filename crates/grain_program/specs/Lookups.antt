-- Which function a name and a number of arguments mean.
use Rattle.std.specs.Prelude.{ℕ, ◌≡◌, ◌<◌, ◌+◌, ◌==◌, ◌&&◌, Bool, false, List, [], ◌∷◌, length, slice_get, slice_index_or, Option, Some, None, option_map, is_none, if◌then◌else◌}
use Rattle.std.specs.List.{position_from}
use Rattle.std.specs.Str.{bytes_eq}
use Rattle.std.specs.Ordering.{nat_cmp, ordering_then}
use Rattle.std.specs.declared.cmp.Ordering.{Ordering}
use Rattle.std.specs.BTreeMap.{BTreeMap, get}
use Rattle.grain_program.specs.declared.code.functions.Function.{Function}
use Rattle.grain_program.specs.declared.lookups.First.{First}
use Rattle.grain_program.specs.View.{View}

-- A function is typed if it is a method of the values of one type alone, and else untyped.
abbrev pub is_untyped : Function → Bool
is_untyped f = is_none f.this_type

-- the function has this name, by its index, and is untyped
abbrev pub is_named_so : ℕ → Function → Bool
is_named_so name f = (f.name == name) && is_untyped f

-- the function has this name, by its index, and this number of parameters, and is untyped
abbrev pub is_called : ℕ → ℕ → Function → Bool
is_called name count f = is_named_so name f && (length f.params == count)

-- the number of the first untyped function of this name with this number of parameters
abbrev pub function_of : View → ℕ → ℕ → Option ℕ
function_of p name count = position_from (is_called name count) 0 p.functions

-- there is a name, and it is this text
abbrev pub is_text : List ℕ → Option (List ℕ) → Bool
is_text text None = false
is_text text (Some name) = bytes_eq name text

-- the function has a name of this text, and this number of parameters, and is untyped
abbrev pub has_text : List (List ℕ) → List ℕ → ℕ → Function → Bool
has_text names text count f =
    is_text text (slice_get names f.name) && (is_untyped f && (length f.params == count))

-- the number of the first untyped function that has a name of this text, with this number of parameters
abbrev pub function_by_text : View → List ℕ → ℕ → Option ℕ
function_by_text p text count = position_from (has_text p.names text count) 0 p.functions

-- this is the type of a method, and its name is this text
abbrev pub is_type : List (List ℕ) → List ℕ → Option ℕ → Bool
is_type names type None = false
is_type names type (Some n) = is_text type (slice_get names n)

-- the function has this name, by its index, and this number of parameters, and is a method of this
-- type alone
abbrev pub is_method : List (List ℕ) → ℕ → ℕ → List ℕ → Function → Bool
is_method names name count type f =
    (f.name == name) && (is_type names type f.this_type && (length f.params == count))

abbrev pub or_else : Option ℕ → Option ℕ → Option ℕ
or_else None other = other
or_else (Some n) other = Some n

-- the number of the function of this name with this number of parameters that a value of this type
-- has as a method: the first that is typed so, or else the first untyped one
abbrev pub method_of : View → ℕ → ℕ → List ℕ → Option ℕ
method_of p name count type =
    or_else (position_from (is_method p.names name count type) 0 p.functions)
    (function_of p name count)

-- the index of the name of the function of this number
abbrev pub name_at : View → Option ℕ → Option ℕ
name_at p None = None
name_at p (Some number) = option_map (λ f. f.name) (slice_get p.functions number)

-- a function of this number is there, with the name and this number of parameters, and is untyped
pub record Called (p : View) (name count number : ℕ) : Type 0 where
  pub function : Function
  pub is : slice_get p.functions number ≡ Some function
  pub name_is : function.name ≡ name
  pub untyped : function.this_type ≡ None
  pub count_is : length function.params ≡ count

-- a function of this number is there, with a name of this text and this number of parameters, and is
-- untyped
pub record CalledByText (p : View) (text : List ℕ) (count number : ℕ) : Type 0 where
  pub function : Function
  pub is : slice_get p.functions number ≡ Some function
  pub text_is : slice_get p.names function.name ≡ Some text
  pub untyped : function.this_type ≡ None
  pub count_is : length function.params ≡ count

-- a function of this number is there, with the name and this number of parameters
pub record MethodCalled (p : View) (name count number : ℕ) : Type 0 where
  pub function : Function
  pub is : slice_get p.functions number ≡ Some function
  pub name_is : function.name ≡ name
  pub count_is : length function.params ≡ count

-- ---- the first functions, by name and number of parameters

-- the order of names and numbers of parameters
abbrev pub signature_cmp : ℕ × ℕ → ℕ × ℕ → Ordering
signature_cmp x y = ordering_then (nat_cmp x.0 y.0) (nat_cmp x.1 y.1)

-- the map has the number of the first function of each name, by its index, with each number of
-- parameters
abbrev pub IsIndex : List Function → BTreeMap (ℕ × ℕ) ℕ → Type 0
IsIndex fs function_index =
    (name count : ℕ)
    → get signature_cmp function_index (name, count) ≡ position_from (is_called name count) 0 fs

-- the first untyped function of the name, where the functions are counted from this number on: its
-- number, and how many parameters it has
abbrev pub first_named : ℕ → ℕ → List Function → Option First
first_named name from [] = None
first_named name from (f ∷ fs) =
    if is_named_so name f then Some (record { number = from; count = length f.params })
    else first_named name (from + 1) fs

-- the table has the first function of each of its names
abbrev pub AreFirst : List Function → List (Option First) → Type 0
AreFirst fs firsts =
    (name : ℕ) → name < length firsts → slice_index_or firsts name None ≡ first_named name 0 fs
