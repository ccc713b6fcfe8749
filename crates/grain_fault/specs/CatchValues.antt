-- What the variable of a catch holds.
use Rattle.std.specs.Prelude.{ℕ, pos, List, [], Option, Some, None, codes, if◌then◌else◌}
use Rattle.grain_value.specs.Maps.{Entries, put_entry}
use Rattle.grain_value.specs.View.{tree}
use Rattle.grain_value.specs.declared.values.Dynamic.{Dynamic}
use Rattle.grain_value.specs.declared.values.Dynamic.TheVariants as dynamic
use Rattle.grain_fault.specs.declared.places.Position.{Position}
use Rattle.grain_fault.specs.Places.{nowhere, is_nowhere}
use Rattle.grain_fault.specs.Positions.{at_position, position_of_problem}
use Rattle.grain_fault.specs.Problems.{FaultKind, Runtime, Problem, Plain, InFunctionCall, InModule, SystemError, NoMemory, inner_fault}
use Rattle.grain_fault.specs.Texts.{fault_text}
use Rattle.grain_fault.specs.Fields.{fields_of, put_fields}

-- the value that a fault of this kind throws; no other kind than a script's throws one
abbrev pub value_thrown : FaultKind → Option Dynamic
value_thrown (Runtime v) = Some v
value_thrown k = None

abbrev pub thrown_in : Problem → Option Dynamic
thrown_in (Plain k p) = value_thrown k
thrown_in (InFunctionCall f s x p) = None
thrown_in (InModule m x p) = None
thrown_in (SystemError s e) = None
thrown_in NoMemory = None

abbrev pub with_source : Option (List ℕ) → Entries → Entries
with_source None es = es
with_source (Some s) es = put_entry (codes "source") (tree (dynamic.Text s)) es

-- the line and the column, which is 0 at the start of a line
abbrev pub with_place : Position → Entries → Entries
with_place p es =
    if is_nowhere p then es
    else put_entry (codes "position") (tree (dynamic.Int (pos p.column)))
    (put_entry (codes "line") (tree (dynamic.Int (pos p.line))) es)

-- a fault as a map: its text without its own position, the program's source, where it was raised,
-- and then its fields, of which one may take the place of these
abbrev pub fault_map : Option (List ℕ) → Problem → Entries
fault_map source x =
    put_fields (fields_of x)
    (with_place (position_of_problem x)
    (with_source source
    (put_entry (codes "message") (tree (dynamic.Text (fault_text (at_position nowhere x)))) [])))

abbrev pub value_or_map : Option Dynamic → Entries → Dynamic
value_or_map (Some v) es = v
value_or_map None es = dynamic.Map es

-- the value that was thrown, also through calls and modules, and else the fault as a map
abbrev pub caught_value : Option (List ℕ) → Problem → Dynamic
caught_value source x = value_or_map (thrown_in (inner_fault x)) (fault_map source x)
