-- The names and the texts of faults.
use Rattle.std.specs.Prelude.{ℕ, Bool, List, [], ◌++◌, length, codes, ◌==◌, eqb, if◌then◌else◌}
use Rattle.std.specs.List.{starts_with}
use Rattle.std.specs.Fmt.{decimal}
use Rattle.grain_fault.specs.Places.{is_nowhere}
use Rattle.grain_fault.specs.Positions.{position_of_problem}
use Rattle.grain_fault.specs.Problems.{Problem, Plain, InFunctionCall, InModule, SystemError, NoMemory}
use Rattle.grain_fault.specs.Table.{row}
use Rattle.grain_fault.specs.declared.places.Position.{Position}

-- the name of the variant
abbrev pub fault_name : Problem → List ℕ
fault_name (Plain k p) = (row k).name
fault_name (InFunctionCall f s x p) = codes "ErrorInFunctionCall"
fault_name (InModule m x p) = codes "ErrorInModule"
fault_name (SystemError s e) = codes "ErrorSystem"
fault_name NoMemory = codes "Memory"

-- the line and the column in parentheses, after a blank; no position gives nothing, and the start
-- of a line has no column
abbrev pub line_and_column_text : Position → List ℕ
line_and_column_text p =
    if is_nowhere p then []
    else (if p.column == 0 then codes " (line " ++ decimal p.line ++ codes ")"
    else codes " (line " ++ decimal p.line ++ codes ", position " ++ decimal p.column ++ codes ")")

-- where it happened: the source of the call, empty outside of all calls, and the position
abbrev pub location_text : List ℕ → Position → List ℕ
location_text source p =
    (if length source == 0 then [] else codes " @ '" ++ source ++ codes "'")
    ++ line_and_column_text p

-- whether the name is that of a closure
abbrev pub is_closure : List ℕ → Bool
is_closure function = starts_with eqb function (codes "anon$")

-- the call that a fault left
abbrev pub call_text : List ℕ → List ℕ
call_text function =
    if is_closure function then codes "in closure call"
    else codes "in call to function '" ++ function ++ codes "'"

-- the source of the function that was called
abbrev pub origin_text : List ℕ → List ℕ
origin_text source = if length source == 0 then [] else codes " (from '" ++ source ++ codes "')"

-- the module that a fault left
abbrev pub module_text : List ℕ → List ℕ
module_text m =
    if length m == 0 then codes "in module" else codes "in module '" ++ (m ++ codes "'")

-- what a wrapper adds to what it wraps: where that happened, and what it left
abbrev pub wrapper_text : Problem → List ℕ
wrapper_text (Plain k p) = []
wrapper_text (InFunctionCall f s x p) =
    location_text s (position_of_problem x) ++ (codes "\n" ++ (call_text f ++ origin_text s))
wrapper_text (InModule m x p) =
    location_text [] (position_of_problem x) ++ (codes "\n" ++ module_text m)
wrapper_text (SystemError s e) = []
wrapper_text NoMemory = []

-- a failure of the host's own: the reason, after what it is about, if anything
abbrev pub system_text : List ℕ → List ℕ → List ℕ
system_text about reason = if length about == 0 then reason else about ++ (codes ": " ++ reason)

-- what happened, of a fault that wraps no other; nothing of one that does
abbrev pub own_message : Problem → List ℕ
own_message (Plain k p) = (row k).text
own_message (InFunctionCall f s x p) = []
own_message (InModule m x p) = []
own_message (SystemError s e) = system_text s e
own_message NoMemory = codes "Out of memory"

-- what happened, without where
abbrev pub message : Problem → List ℕ
message (Plain k p) = own_message (Plain k p)
message (InFunctionCall f s x p) = message x ++ wrapper_text (InFunctionCall f s x p)
message (InModule m x p) = message x ++ wrapper_text (InModule m x p)
message (SystemError s e) = own_message (SystemError s e)
message NoMemory = own_message NoMemory

-- what happened, and then where
abbrev pub fault_text : Problem → List ℕ
fault_text f = message f ++ location_text [] (position_of_problem f)
