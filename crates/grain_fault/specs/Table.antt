-- The table of faults: of each kind its name, its class, its fields and its text without a
-- position.
use Rattle.std.specs.Prelude.{ℕ, ℤ, pos, Bool, true, false, List, [], ◌∷◌, ◌++◌, drop, length, codes, ◌==◌, ◌^◌, ◌-◌, nat_lt, eqb, bytes_eq, if◌then◌else◌}
use Rattle.std.specs.List.{starts_with}
use Rattle.std.specs.Fmt.{decimal, signed_decimal}
use Rattle.grain_value.specs.Tree.{Tree}
use Rattle.grain_value.specs.View.{value_of}
use Rattle.grain_value.specs.declared.values.Dynamic.{Dynamic}
use Rattle.grain_value.specs.declared.values.Dynamic.TheVariants as dynamic
use Rattle.grain_value.specs.Writing.{plain}
use Rattle.grain_fault.specs.Problems.{FaultKind, Parsing, VariableExists, ForbiddenVariable, VariableNotFound, PropertyNotFound, IndexNotFound, FunctionNotFound, ModuleNotFound, UnboundThis, MismatchDataType, MismatchOutputType, IndexingType, ArrayBounds, StringBounds, BitFieldBounds, For, DataRace, NonPureCall, AssignmentToConstant, DotExpr, Arithmetic, TooManyOperations, TooManyVariables, TooManyModules, StackOverflow, DataTooLarge, Terminated, CustomSyntax, Runtime, LoopBreak, Return, Exit, Malformed}
use Rattle.grain_fault.specs.declared.faults.MalformedKind.{MalformedKind}
use Rattle.grain_fault.specs.declared.faults.MalformedKind.TheVariants as kind

pub data Class : Type 0 where
  -- no fault, but how control leaves a construct
  Pseudo : Class
  -- a script may catch it
  Catchable : Class
  -- it ends the run, whatever the script does
  System : Class

-- a field of a fault, by its name
abbrev pub Field : Type 0
Field = List ℕ × Dynamic

pub record Row : Type 0 where
  -- the variant's name
  pub name : List ℕ
  pub class : Class
  pub fields : List Field
  pub text : List ℕ

-- a fault that a script may catch, of this name, with these fields and this text
abbrev pub catchable_row : List ℕ → List Field → List ℕ → Row
catchable_row name fields text =
    record { name = name; class = Catchable; fields = fields; text = text }

-- a fault that ends the run
abbrev pub system_row : List ℕ → List Field → List ℕ → Row
system_row name fields text =
    record { name = name; class = System; fields = fields; text = text }

-- what is no fault
abbrev pub pseudo_row : List ℕ → List ℕ → Row
pseudo_row name text = record { name = name; class = Pseudo; fields = []; text = text }

-- the only field, which is a text
abbrev pub text_field : List ℕ → List ℕ → List Field
text_field name s = (name, dynamic.Text s) ∷ []

-- the two types of a mismatch
abbrev pub mismatch_fields : List ℕ → List ℕ → List Field
mismatch_fields r a =
    (codes "requested", dynamic.Text r) ∷ (codes "actual", dynamic.Text a) ∷ []

-- a length as a script's integer; one that is none of these is the greatest of them
abbrev pub as_integer : ℕ → ℤ
as_integer n = if nat_lt n (2 ^ 63) then pos n else pos (2 ^ 63 - 1)

-- how many there are, and which one was asked for
abbrev pub bounds_fields : ℕ → ℤ → List Field
bounds_fields n i =
    (codes "length", dynamic.Int (as_integer n)) ∷ (codes "index", dynamic.Int i) ∷ []

-- the two types of a mismatch, the requested and the actual; an empty one is left out
abbrev pub mismatch_text : List ℕ → List ℕ → List ℕ
mismatch_text r a =
    if length a == 0 then codes ", expecting " ++ r
    else (if length r == 0 then codes ": " ++ a
    else codes ": " ++ (a ++ (codes " (expecting " ++ (r ++ codes ")"))))

-- how many of these a whole has
abbrev pub size_text : List ℕ → List ℕ → ℕ → List ℕ
size_text whole item n =
    if n == 0 then whole ++ codes " is empty"
    else (if n == 1 then codes "only 1 " ++ (item ++ (codes " in " ++ whole))
    else codes "only " ++ (decimal n ++ (codes " " ++ (item ++ (codes "s in " ++ whole)))))

-- an index, and how many there are
abbrev pub out_of_bounds_text : ℤ → List ℕ → List ℕ
out_of_bounds_text i size = signed_decimal i ++ (codes " out of bounds: " ++ size)

-- a text after a lead, unless the text is empty
abbrev pub after_unless_empty : List ℕ → List ℕ → List ℕ
after_unless_empty lead s = if length s == 0 then [] else lead ++ s

-- a text, or another one where it is empty
abbrev pub or_else : List ℕ → List ℕ → List ℕ
or_else s other = if length s == 0 then other else s

-- the call of a native that writes, on a value that may not be written: what was called goes by the
-- native's name, of a property by what follows `get$` or `set$`
abbrev pub non_pure_text : List ℕ → List ℕ
non_pure_text f =
    if starts_with eqb f (codes "get$")
    then codes "Non-pure property " ++ (drop 4 f ++ codes " cannot be accessed on constant")
    else (if starts_with eqb f (codes "set$")
    then codes "Cannot modify property '" ++ (drop 4 f ++ codes "' of constant")
    else (if bytes_eq f (codes "index$get$")
    then codes "Non-pure indexer cannot be accessed on constant"
    else (if bytes_eq f (codes "index$set$")
    then codes "Cannot assign to indexer of constant"
    else codes "Non-pure method '" ++ (f ++ codes "' cannot be called on constant"))))

-- tokens by their plain texts, each after the lead, which is a blank from the second on
abbrev pub spaced : List ℕ → List Tree → List ℕ
spaced lead [] = []
spaced lead (t ∷ ts) = lead ++ plain (value_of t) ++ spaced (codes " ") ts

-- a value that was thrown, by its plain text after a colon; unit and the empty text give nothing
abbrev pub thrown_value_text : Dynamic → List ℕ
thrown_value_text dynamic.Unit = []
thrown_value_text (dynamic.Bool b) = codes ": " ++ plain (dynamic.Bool b)
thrown_value_text (dynamic.Int n) = codes ": " ++ plain (dynamic.Int n)
thrown_value_text (dynamic.Char c) = codes ": " ++ plain (dynamic.Char c)
thrown_value_text (dynamic.Text t) = after_unless_empty (codes ": ") t
thrown_value_text (dynamic.Array ts) = codes ": " ++ plain (dynamic.Array ts)
thrown_value_text (dynamic.Blob s) = codes ": " ++ plain (dynamic.Blob s)
thrown_value_text (dynamic.Map es) = codes ": " ++ plain (dynamic.Map es)
thrown_value_text (dynamic.Pointer p) = codes ": " ++ plain (dynamic.Pointer p)
thrown_value_text (dynamic.Range from to inclusive) =
    codes ": " ++ plain (dynamic.Range from to inclusive)
thrown_value_text (dynamic.Foreign kind number) = codes ": " ++ plain (dynamic.Foreign kind number)
thrown_value_text (dynamic.Cell number) = codes ": " ++ plain (dynamic.Cell number)

-- what a loop is left by outside of all loops
abbrev pub loop_text : Bool → List ℕ
loop_text true = codes "'break' must be within a loop"
loop_text false = codes "'continue' must be within a loop"

-- what the program asks for that is not there
abbrev pub kind_text : MalformedKind → List ℕ
kind_text (kind.SlotPastScope i l) =
    codes "slot " ++ (decimal i ++ (codes " past a scope of " ++ decimal l))
kind_text (kind.UnwindPastScope t l) =
    codes "unwind to " ++ (decimal t ++ (codes " past a scope of " ++ decimal l))
kind_text (kind.TryFloorBroken w l) =
    codes "try began at a scope of " ++ (decimal w ++ (codes ", now " ++ decimal l))
kind_text (kind.TemplateNotMap k) = codes "map template is a " ++ k
kind_text (kind.KeyNotText k) = codes "map key is a " ++ k
kind_text (kind.BufferNotText k) = codes "interpolation buffer is a " ++ k
kind_text (kind.MissingTotal i) = codes "size check " ++ (decimal i ++ codes " outside a literal")

abbrev pub row : FaultKind → Row
row (Parsing t) = system_row (codes "ErrorParsing") [] (codes "Syntax error: " ++ t)
row (VariableExists s) =
    catchable_row (codes "ErrorVariableExists") (text_field (codes "variable") s)
    (codes "Variable already defined: " ++ s)
row (ForbiddenVariable s) =
    catchable_row (codes "ErrorForbiddenVariable") (text_field (codes "variable") s)
    (codes "Forbidden variable name: " ++ s)
row (VariableNotFound s) =
    catchable_row (codes "ErrorVariableNotFound") (text_field (codes "variable") s)
    (codes "Variable not found: " ++ s)
row (PropertyNotFound s) =
    catchable_row (codes "ErrorPropertyNotFound") (text_field (codes "variable") s)
    (codes "Property not found: " ++ s)
row (IndexNotFound v) =
    catchable_row (codes "ErrorIndexNotFound") ((codes "index", v) ∷ [])
    (codes "Invalid index: " ++ plain v)
row (FunctionNotFound s) =
    catchable_row (codes "ErrorFunctionNotFound") (text_field (codes "function") s)
    (codes "Function not found: " ++ s)
row (ModuleNotFound s) =
    catchable_row (codes "ErrorModuleNotFound") (text_field (codes "module") s)
    (codes "Module not found: " ++ s)
row UnboundThis = catchable_row (codes "ErrorUnboundThis") [] (codes "'this' not bound")
row (MismatchDataType r a) =
    catchable_row (codes "ErrorMismatchDataType") (mismatch_fields r a)
    (codes "Data type incorrect" ++ mismatch_text r a)
row (MismatchOutputType r a) =
    catchable_row (codes "ErrorMismatchOutputType") (mismatch_fields r a)
    (codes "Output type incorrect" ++ mismatch_text r a)
row (IndexingType t) =
    catchable_row (codes "ErrorIndexingType") (text_field (codes "type") t)
    (codes "Indexer unavailable: " ++ t)
row (ArrayBounds n i) =
    catchable_row (codes "ErrorArrayBounds") (bounds_fields n i)
    (codes "Array index " ++ out_of_bounds_text i
    (size_text (codes "array") (codes "element") n))
row (StringBounds n i) =
    catchable_row (codes "ErrorStringBounds") (bounds_fields n i)
    (codes "String index " ++ out_of_bounds_text i
    (size_text (codes "string") (codes "character") n))
row (BitFieldBounds n i) =
    catchable_row (codes "ErrorBitFieldBounds") (bounds_fields n i)
    (codes "Bit-field index " ++ out_of_bounds_text i
    (codes "only " ++ (decimal n ++ codes " bits in bit-field")))
row For = catchable_row (codes "ErrorFor") [] (codes "For loop expects iterable type")
row (DataRace s) =
    catchable_row (codes "ErrorDataRace") (text_field (codes "variable") s)
    (codes "Data race detected" ++ after_unless_empty (codes " on ") s)
row (NonPureCall f) =
    catchable_row (codes "ErrorNonPureMethodCallOnConstant") (text_field (codes "function") f)
    (non_pure_text f)
row (AssignmentToConstant s) =
    catchable_row (codes "ErrorAssignmentToConstant") (text_field (codes "variable") s)
    (codes "Cannot modify constant " ++ s)
row (DotExpr s) =
    catchable_row (codes "ErrorDotExpr") (text_field (codes "property") s)
    (or_else s (codes "Malformed dot expression"))
row (Arithmetic s) =
    catchable_row (codes "ErrorArithmetic") [] (or_else s (codes "Arithmetic error"))
row TooManyOperations =
    system_row (codes "ErrorTooManyOperations") [] (codes "Too many operations")
row TooManyVariables =
    system_row (codes "ErrorTooManyVariables") [] (codes "Too many variables defined")
row TooManyModules = system_row (codes "ErrorTooManyModules") [] (codes "Too many modules imported")
row StackOverflow = system_row (codes "ErrorStackOverflow") [] (codes "Stack overflow")
row (DataTooLarge t) =
    system_row (codes "ErrorDataTooLarge") (text_field (codes "type") t) (t ++ codes " too large")
row (Terminated v) =
    system_row (codes "ErrorTerminated") ((codes "token", v) ∷ []) (codes "Script terminated")
row (CustomSyntax s tokens) =
    system_row (codes "ErrorCustomSyntax") ((codes "tokens", dynamic.Array tokens) ∷ [])
    (s ++ (codes ": " ++ spaced [] tokens))
row (Runtime v) =
    catchable_row (codes "ErrorRuntime") [] (codes "Runtime error" ++ thrown_value_text v)
row (LoopBreak b v) = pseudo_row (codes "LoopBreak") (loop_text b)
row (Return v) = pseudo_row (codes "Return") (codes "NOT AN ERROR - function returns value")
row (Exit v) = pseudo_row (codes "Exit") (codes "NOT AN ERROR - exit value")
row (Malformed k) =
    system_row (codes "Malformed") [] (codes "Malformed program: " ++ kind_text k)
