-- The values that a fault holds, and the cells that it names by them.
use Rattle.std.specs.Prelude.{ℕ, Bool, false, ◌&&◌, not, List, [], ◌∷◌}
use Rattle.std.specs.List.{list_all}
use Rattle.grain_value.specs.Tree.{Tree, array, pack}
use Rattle.grain_value.specs.View.{tree}
use Rattle.grain_value.specs.Cells.{cell_bound, is_cell, is_clean}
use Rattle.grain_fault.specs.Problems.{FaultKind, Parsing, VariableExists, ForbiddenVariable, VariableNotFound, PropertyNotFound, IndexNotFound, FunctionNotFound, ModuleNotFound, UnboundThis, MismatchDataType, MismatchOutputType, IndexingType, ArrayBounds, StringBounds, BitFieldBounds, For, DataRace, NonPureCall, AssignmentToConstant, DotExpr, Arithmetic, TooManyOperations, TooManyVariables, TooManyModules, StackOverflow, DataTooLarge, Terminated, CustomSyntax, Runtime, LoopBreak, Return, Exit, Malformed, Problem, Plain, InFunctionCall, InModule, SystemError, NoMemory}

-- the values that a fault of this kind holds
abbrev pub kind_values : FaultKind → List Tree
kind_values (Parsing t) = []
kind_values (VariableExists n) = []
kind_values (ForbiddenVariable n) = []
kind_values (VariableNotFound n) = []
kind_values (PropertyNotFound n) = []
kind_values (IndexNotFound v) = tree v ∷ []
kind_values (FunctionNotFound t) = []
kind_values (ModuleNotFound n) = []
kind_values UnboundThis = []
kind_values (MismatchDataType r a) = []
kind_values (MismatchOutputType r a) = []
kind_values (IndexingType t) = []
kind_values (ArrayBounds n i) = []
kind_values (StringBounds n i) = []
kind_values (BitFieldBounds n i) = []
kind_values For = []
kind_values (DataRace t) = []
kind_values (NonPureCall n) = []
kind_values (AssignmentToConstant n) = []
kind_values (DotExpr t) = []
kind_values (Arithmetic t) = []
kind_values TooManyOperations = []
kind_values TooManyVariables = []
kind_values TooManyModules = []
kind_values StackOverflow = []
kind_values (DataTooLarge t) = []
kind_values (Terminated v) = tree v ∷ []
kind_values (CustomSyntax t tokens) = array (pack tokens) ∷ []
kind_values (Runtime v) = tree v ∷ []
kind_values (LoopBreak b v) = tree v ∷ []
kind_values (Return v) = tree v ∷ []
kind_values (Exit v) = tree v ∷ []
kind_values (Malformed k) = []

-- the values that a fault holds, or the one inside it
abbrev pub problem_values : Problem → List Tree
problem_values (Plain k p) = kind_values k
problem_values (InFunctionCall f s x p) = problem_values x
problem_values (InModule n x p) = problem_values x
problem_values (SystemError s e) = []
problem_values NoMemory = []

-- one more than the greatest cell that a fault names, and 0 where it names none
abbrev pub problem_bound : Problem → ℕ
problem_bound x = cell_bound (array (pack (problem_values x)))

-- whether a fault of this kind is that of an index that was not found, and the index is a cell
abbrev pub cell_not_found : FaultKind → Bool
cell_not_found (Parsing t) = false
cell_not_found (VariableExists n) = false
cell_not_found (ForbiddenVariable n) = false
cell_not_found (VariableNotFound n) = false
cell_not_found (PropertyNotFound n) = false
cell_not_found (IndexNotFound v) = is_cell (tree v)
cell_not_found (FunctionNotFound t) = false
cell_not_found (ModuleNotFound n) = false
cell_not_found UnboundThis = false
cell_not_found (MismatchDataType r a) = false
cell_not_found (MismatchOutputType r a) = false
cell_not_found (IndexingType t) = false
cell_not_found (ArrayBounds n i) = false
cell_not_found (StringBounds n i) = false
cell_not_found (BitFieldBounds n i) = false
cell_not_found For = false
cell_not_found (DataRace t) = false
cell_not_found (NonPureCall n) = false
cell_not_found (AssignmentToConstant n) = false
cell_not_found (DotExpr t) = false
cell_not_found (Arithmetic t) = false
cell_not_found TooManyOperations = false
cell_not_found TooManyVariables = false
cell_not_found TooManyModules = false
cell_not_found StackOverflow = false
cell_not_found (DataTooLarge t) = false
cell_not_found (Terminated v) = false
cell_not_found (CustomSyntax t tokens) = false
cell_not_found (Runtime v) = false
cell_not_found (LoopBreak b v) = false
cell_not_found (Return v) = false
cell_not_found (Exit v) = false
cell_not_found (Malformed k) = false

abbrev pub problem_cell_not_found : Problem → Bool
problem_cell_not_found (Plain k p) = cell_not_found k
problem_cell_not_found (InFunctionCall f s x p) = problem_cell_not_found x
problem_cell_not_found (InModule n x p) = problem_cell_not_found x
problem_cell_not_found (SystemError s e) = false
problem_cell_not_found NoMemory = false

-- whether the values of a fault are clean, and no index that was not found is a cell
abbrev pub problem_is_clean : Problem → Bool
problem_is_clean x = list_all is_clean (problem_values x) && not (problem_cell_not_found x)
