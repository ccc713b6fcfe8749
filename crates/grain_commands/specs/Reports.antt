-- What is written of a run's end.
use Rattle.std.specs.Prelude.{ℕ, Bool, true, false, List, [], ◌∷◌, ◌++◌, Option, Some, None, codes}
use Rattle.std.specs.Fmt.{decimal}
use Rattle.grain_value.specs.Cells.{seen}
use Rattle.grain_value.specs.Writing.{quoted}
use Rattle.grain_value.specs.declared.stores.Cell.{Cell}
use Rattle.grain_value.specs.declared.values.Dynamic.{Dynamic}
use Rattle.grain_fault.specs.Problems.{Problem}
use Rattle.grain_fault.specs.Texts.{fault_name, fault_text}
use Rattle.grain_fault.specs.declared.traces.Fault.{Fault}

-- LF
abbrev pub line_end : List ℕ
line_end = 10 ∷ []

-- A value's report is `value` and the value as a listing has it. Of a cell it is that of what the
-- cell has.
abbrev pub report_value : List Cell → Dynamic → List ℕ
report_value cells value = codes "value " ++ quoted (seen cells value) ++ line_end

-- the same in one line with a number of operations
abbrev pub counted_value : List Cell → Dynamic → ℕ → List ℕ
counted_value cells value operations = codes "value " ++ quoted (seen cells value) ++
    codes " operations " ++ decimal operations ++ line_end

-- what is written of a value after this was printed: that and the value's report; or, where operations are
-- told, the value and how many there were, without what was printed
abbrev pub told_value : Bool → List ℕ → List Cell → Dynamic → ℕ → List ℕ
told_value false printed cells value operations = printed ++ report_value cells value
told_value true printed cells value operations = counted_value cells value operations

-- the slot of a chain's step stands after a colon
abbrev pub slot_text : Option ℕ → List ℕ
slot_text None = []
slot_text (Some slot) = codes ":" ++ decimal slot

-- an entry of the trace, with a space before it
abbrev pub entry_text : Fault → List ℕ
entry_text entry = codes " " ++ decimal entry.address ++ slot_text entry.slot

abbrev pub entries_text : List Fault → List ℕ
entries_text [] = []
entries_text (entry ∷ entries) = entry_text entry ++ entries_text entries

-- a fault's report has three lines: `fault` and its name, its text, and `trace` and where the
-- frames stopped
abbrev pub report_fault : Problem → List Fault → List ℕ
report_fault problem trace =
    (codes "fault " ++ fault_name problem ++ line_end) ++ (fault_text problem ++ line_end) ++
    (codes "trace" ++ entries_text trace ++ line_end)
