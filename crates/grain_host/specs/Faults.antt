-- The faults that a host may not answer.
use Rattle.std.specs.Prelude.{Bool, true, false}
use Rattle.grain_fault.specs.Problems.{FaultKind, Parsing, VariableExists, ForbiddenVariable, VariableNotFound, PropertyNotFound, IndexNotFound, FunctionNotFound, ModuleNotFound, UnboundThis, MismatchDataType, MismatchOutputType, IndexingType, ArrayBounds, StringBounds, BitFieldBounds, For, DataRace, NonPureCall, AssignmentToConstant, DotExpr, Arithmetic, TooManyOperations, TooManyVariables, TooManyModules, StackOverflow, DataTooLarge, Terminated, CustomSyntax, Runtime, LoopBreak, Return, Exit, Malformed, Problem, Plain, InFunctionCall, InModule, SystemError, NoMemory}

-- whether only the machine itself may raise a fault of the kind: a limit of the run is reached, the
-- run was terminated, a declaration or a use of `this` is refused, a result is not of the type that
-- the embedder asked for, the program is malformed, or it is how control leaves a loop or a
-- function
abbrev pub kept_back : FaultKind → Bool
kept_back (Parsing t) = false
kept_back (VariableExists s) = true
kept_back (ForbiddenVariable s) = true
kept_back (VariableNotFound s) = false
kept_back (PropertyNotFound s) = false
kept_back (IndexNotFound v) = false
kept_back (FunctionNotFound s) = false
kept_back (ModuleNotFound s) = false
kept_back UnboundThis = true
kept_back (MismatchDataType r a) = false
kept_back (MismatchOutputType r a) = true
kept_back (IndexingType t) = false
kept_back (ArrayBounds n i) = false
kept_back (StringBounds n i) = false
kept_back (BitFieldBounds n i) = false
kept_back For = false
kept_back (DataRace s) = false
kept_back (NonPureCall f) = false
kept_back (AssignmentToConstant s) = false
kept_back (DotExpr s) = false
kept_back (Arithmetic s) = false
kept_back TooManyOperations = true
kept_back TooManyVariables = true
kept_back TooManyModules = true
kept_back StackOverflow = true
kept_back (DataTooLarge t) = false
kept_back (Terminated v) = true
kept_back (CustomSyntax s ts) = false
kept_back (Runtime v) = false
kept_back (LoopBreak b v) = true
kept_back (Return v) = true
kept_back (Exit v) = false
kept_back (Malformed k) = true

-- whether only the machine itself may raise the fault
abbrev pub handed_back : Problem → Bool
handed_back (Plain k p) = kept_back k
handed_back (InFunctionCall f s x p) = false
handed_back (InModule m x p) = false
handed_back (SystemError s e) = false
handed_back NoMemory = true
