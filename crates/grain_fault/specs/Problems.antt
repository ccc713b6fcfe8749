-- Faults as trees: what a fault is, without the places of its parts in memory.
use Rattle.std.specs.Prelude.{ℕ, ℤ, Bool, List}
use Rattle.grain_value.specs.Tree.{Tree}
use Rattle.grain_value.specs.declared.values.Dynamic.{Dynamic}
use Rattle.grain_fault.specs.declared.places.Position.{Position}
use Rattle.grain_fault.specs.declared.faults.MalformedKind.{MalformedKind}
use Rattle.grain_fault.specs.declared.faults.EvalAltResult.{EvalAltResult}
use Rattle.grain_fault.specs.declared.faults.EvalAltResult.TheVariants as fault

-- what went wrong, of all faults that have a position and wrap no other
pub data FaultKind : Type 0 where
  Parsing : List ℕ → FaultKind
  VariableExists : List ℕ → FaultKind
  ForbiddenVariable : List ℕ → FaultKind
  VariableNotFound : List ℕ → FaultKind
  PropertyNotFound : List ℕ → FaultKind
  IndexNotFound : Dynamic → FaultKind
  FunctionNotFound : List ℕ → FaultKind
  ModuleNotFound : List ℕ → FaultKind
  UnboundThis : FaultKind
  MismatchDataType : (requested actual : List ℕ) → FaultKind
  MismatchOutputType : (requested actual : List ℕ) → FaultKind
  IndexingType : List ℕ → FaultKind
  ArrayBounds : (size : ℕ) (index : ℤ) → FaultKind
  StringBounds : (size : ℕ) (index : ℤ) → FaultKind
  BitFieldBounds : (size : ℕ) (index : ℤ) → FaultKind
  For : FaultKind
  DataRace : List ℕ → FaultKind
  NonPureCall : List ℕ → FaultKind
  AssignmentToConstant : List ℕ → FaultKind
  DotExpr : List ℕ → FaultKind
  Arithmetic : List ℕ → FaultKind
  TooManyOperations : FaultKind
  TooManyVariables : FaultKind
  TooManyModules : FaultKind
  StackOverflow : FaultKind
  DataTooLarge : List ℕ → FaultKind
  Terminated : Dynamic → FaultKind
  CustomSyntax : List ℕ → (tokens : List Tree) → FaultKind
  Runtime : Dynamic → FaultKind
  LoopBreak : Bool → Dynamic → FaultKind
  Return : Dynamic → FaultKind
  Exit : Dynamic → FaultKind
  Malformed : MalformedKind → FaultKind

pub data Problem : Type 0 where
  -- a fault of this kind at a position
  Plain : FaultKind → Position → Problem
  -- a fault that left the body of a function, and the source of the function's program
  InFunctionCall : (function source : List ℕ) → Problem → Position → Problem
  -- a fault that left a module
  InModule : List ℕ → Problem → Position → Problem
  -- a host's own failure
  SystemError : (about reason : List ℕ) → Problem
  NoMemory : Problem

abbrev pub problem_of : EvalAltResult → Problem
problem_of (fault.ErrorSystem s e) = SystemError s e
problem_of (fault.ErrorParsing t p) = Plain (Parsing t) p
problem_of (fault.ErrorVariableExists s p) = Plain (VariableExists s) p
problem_of (fault.ErrorForbiddenVariable s p) = Plain (ForbiddenVariable s) p
problem_of (fault.ErrorVariableNotFound s p) = Plain (VariableNotFound s) p
problem_of (fault.ErrorPropertyNotFound s p) = Plain (PropertyNotFound s) p
problem_of (fault.ErrorIndexNotFound v p) = Plain (IndexNotFound v) p
problem_of (fault.ErrorFunctionNotFound s p) = Plain (FunctionNotFound s) p
problem_of (fault.ErrorModuleNotFound s p) = Plain (ModuleNotFound s) p
problem_of (fault.ErrorInFunctionCall' f s q x p) = InFunctionCall f s (problem_of x) p
problem_of (fault.ErrorInModule' m q x p) = InModule m (problem_of x) p
problem_of (fault.ErrorUnboundThis p) = Plain UnboundThis p
problem_of (fault.ErrorMismatchDataType r a p) = Plain (MismatchDataType r a) p
problem_of (fault.ErrorMismatchOutputType r a p) = Plain (MismatchOutputType r a) p
problem_of (fault.ErrorIndexingType t p) = Plain (IndexingType t) p
problem_of (fault.ErrorArrayBounds n i p) = Plain (ArrayBounds n i) p
problem_of (fault.ErrorStringBounds n i p) = Plain (StringBounds n i) p
problem_of (fault.ErrorBitFieldBounds n i p) = Plain (BitFieldBounds n i) p
problem_of (fault.ErrorFor p) = Plain For p
problem_of (fault.ErrorDataRace s p) = Plain (DataRace s) p
problem_of (fault.ErrorNonPureMethodCallOnConstant f p) = Plain (NonPureCall f) p
problem_of (fault.ErrorAssignmentToConstant s p) = Plain (AssignmentToConstant s) p
problem_of (fault.ErrorDotExpr s p) = Plain (DotExpr s) p
problem_of (fault.ErrorArithmetic s p) = Plain (Arithmetic s) p
problem_of (fault.ErrorTooManyOperations p) = Plain TooManyOperations p
problem_of (fault.ErrorTooManyVariables p) = Plain TooManyVariables p
problem_of (fault.ErrorTooManyModules p) = Plain TooManyModules p
problem_of (fault.ErrorStackOverflow p) = Plain StackOverflow p
problem_of (fault.ErrorDataTooLarge t p) = Plain (DataTooLarge t) p
problem_of (fault.ErrorTerminated v p) = Plain (Terminated v) p
problem_of (fault.ErrorCustomSyntax s tokens p) = Plain (CustomSyntax s tokens) p
problem_of (fault.ErrorRuntime v p) = Plain (Runtime v) p
problem_of (fault.LoopBreak b v p) = Plain (LoopBreak b v) p
problem_of (fault.Return v p) = Plain (Return v) p
problem_of (fault.Exit v p) = Plain (Exit v) p
problem_of (fault.Malformed k p) = Plain (Malformed k) p
problem_of fault.Memory = NoMemory

-- the fault inside its wrappers
abbrev pub inner_fault : Problem → Problem
inner_fault (Plain k p) = Plain k p
inner_fault (InFunctionCall f s x p) = inner_fault x
inner_fault (InModule m x p) = inner_fault x
inner_fault (SystemError s e) = SystemError s e
inner_fault NoMemory = NoMemory
