-- Faults which say that a value has no such property, or no such index, by the host's accessors.
use Rattle.std.specs.Prelude.{Bool, true, false}
use Rattle.grain_fault.specs.Problems.{FaultKind, DotExpr, IndexingType, Problem, Plain, InFunctionCall, InModule, SystemError, NoMemory}

abbrev pub kind_is_dot_expr : FaultKind → Bool
kind_is_dot_expr (DotExpr s) = true
kind_is_dot_expr k = false

-- a property that is not there
abbrev pub is_dot_expr : Problem → Bool
is_dot_expr (Plain k p) = kind_is_dot_expr k
is_dot_expr (InFunctionCall f s x p) = false
is_dot_expr (InModule m x p) = false
is_dot_expr (SystemError s e) = false
is_dot_expr NoMemory = false

abbrev pub kind_is_indexing_type : FaultKind → Bool
kind_is_indexing_type (IndexingType s) = true
kind_is_indexing_type k = false

-- an index that is not there
abbrev pub is_indexing_type : Problem → Bool
is_indexing_type (Plain k p) = kind_is_indexing_type k
is_indexing_type (InFunctionCall f s x p) = false
is_indexing_type (InModule m x p) = false
is_indexing_type (SystemError s e) = false
is_indexing_type NoMemory = false
