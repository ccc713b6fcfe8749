-- How a function that is not found is named, and the fault that it is not: by its name and the
-- types of its arguments.
use Rattle.std.specs.Prelude.{ℕ, zero, suc, Bool, false, List, [], ◌∷◌, ◌++◌, codes, drop, eqb, bytes_eq, if◌then◌else◌}
use Rattle.std.specs.List.{starts_with}
use Rattle.grain_fault.specs.Problems.{FaultKind, FunctionNotFound, DotExpr, IndexingType, Problem, Plain, InFunctionCall, InModule, SystemError, NoMemory}
use Rattle.grain_fault.specs.declared.places.Position.{Position}
use Rattle.grain_value.specs.declared.values.Dynamic.{Dynamic}
use Rattle.grain_value.specs.Writing.{type_name_of}

-- the types of values, each after a lead, which is a comma from the second on
abbrev pub types_text : List ℕ → List Dynamic → List ℕ
types_text lead [] = []
types_text lead (v ∷ vs) = lead ++ type_name_of v ++ types_text (codes ", ") vs

abbrev pub signature_text : List ℕ → List Dynamic → List ℕ
signature_text name args = name ++ codes " (" ++ types_text [] args ++ codes ")"

-- the type of the argument at this place; none is named where there is none
abbrev pub type_at : ℕ → List Dynamic → List ℕ
type_at i [] = []
type_at zero (v ∷ vs) = type_name_of v
type_at (suc i) (v ∷ vs) = type_at i vs

-- a getter, a setter or an indexer that is not found is a property or an index that is not there
abbrev pub unknown_property : List ℕ → List Dynamic → List ℕ
unknown_property property args =
    codes "Unknown property '" ++ property ++ codes "' for '" ++ type_at 0 args ++ codes "'"

abbrev pub unwritable_property : List ℕ → List Dynamic → List ℕ
unwritable_property property args =
    codes "No writable property '" ++ property ++ codes "' for '" ++ type_at 0 args ++ codes "'"

abbrev pub index_text : List Dynamic → List ℕ
index_text args = type_at 0 args ++ codes " [" ++ type_at 1 args ++ codes "]"

-- that no native of this name takes these arguments
abbrev pub missing_kind : List ℕ → List Dynamic → FaultKind
missing_kind name args =
    if starts_with eqb name (codes "get$") then DotExpr (unknown_property (drop 4 name) args) else
    (if starts_with eqb name (codes "set$") then DotExpr (unwritable_property (drop 4 name) args)
    else
    (if bytes_eq name (codes "index$get$") then IndexingType (index_text args) else
    (if bytes_eq name (codes "index$set$")
    then IndexingType (index_text args ++ codes " = " ++ type_at 2 args)
    else FunctionNotFound (signature_text name args))))

abbrev pub not_found : List ℕ → List Dynamic → Position → Problem
not_found name args p = Plain (missing_kind name args) p

-- the kind says that no function of this name is found; no other kind does
abbrev pub names_missing : List ℕ → FaultKind → Bool
names_missing name (FunctionNotFound text) = starts_with eqb text name
names_missing name k = false

-- the fault says that no function of this name is found; one that left a call or a module does not,
-- whatever it wraps
abbrev pub says_missing : List ℕ → Problem → Bool
says_missing name (Plain k p) = names_missing name k
says_missing name (InFunctionCall f s x p) = false
says_missing name (InModule m x p) = false
says_missing name (SystemError s e) = false
says_missing name NoMemory = false
