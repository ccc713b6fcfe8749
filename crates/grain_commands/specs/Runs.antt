-- How the program's runs begin, and what is written of their ends.
use Rattle.std.specs.Prelude.{◌≡◌, ◌++◌, ℕ, Bool, true, List, []}
use Rattle.grain_value.specs.declared.values.Dynamic.{Dynamic}
use Rattle.grain_value.specs.declared.values.Limits.{Limits}
use Rattle.grain_value.specs.declared.scopes.Entry.{Entry}
use Rattle.grain_value.specs.declared.stores.Cell.{Cell}
use Rattle.grain_fault.specs.Problems.{NoMemory}
use Rattle.grain_fault.specs.declared.traces.Fault.{Fault}
use Rattle.grain_host.specs.Tables.{table_law}
use Rattle.grain_host.specs.declared.tables.TableHost.{TableHost}
use Rattle.grain_program.specs.View.{View}
use Rattle.grain_global.specs.declared.engines.Engine.{Engine}
use Rattle.grain_means.specs.Worlds.{Answer, Came, Failed}
use Rattle.grain_means.specs.Means.{Begin, Finish, Means}
use Rattle.grain_vm.specs.Machines.{begin}
use Rattle.grain_commands.specs.Reports.{report_value, report_fault, told_value}

-- the limits that the listing says, and whether it says that operators are fast and properties
-- strict; natives may call functions back
abbrev pub engine_of : Limits → Bool → Bool → Engine
engine_of limits fast_operators strict_properties = record {
  limits = limits;
  fast_operators = fast_operators;
  strict_properties = strict_properties;
  callbacks = true;
}

-- The scope and the host that the listing says, without cells. Nothing was run before.
abbrev pub start : List Entry → TableHost → Begin TableHost
start scope host = begin scope [] host (record { num_operations = 0; level = 0 })

-- 0 for a value and 1 for a fault
abbrev pub status_of : Answer → ℕ
status_of (Came v) = 0
status_of (Failed p) = 1

abbrev pub answer_report : List Cell → Answer → List Fault → List ℕ
answer_report cells (Came v) trace = report_value cells v
answer_report cells (Failed p) trace = report_fault p trace

-- the report of an end: what the host has printed, and then the answer
abbrev pub report : Finish TableHost → List ℕ
report end = end.host.printed ++ answer_report end.cells end.answer end.trace

-- what is written of a value at this end: what the host has printed and the value's report; or, where
-- operations are told, the value and how many there were
abbrev pub value_text : Bool → Finish TableHost → Dynamic → List ℕ
value_text told end v =
    told_value told end.host.printed end.cells v end.global.num_operations

-- what is written of an end with this answer
abbrev pub answer_text : Bool → Finish TableHost → Answer → List ℕ
answer_text told end (Came v) = value_text told end v
answer_text told end (Failed p) = end.host.printed ++ report_fault p end.trace

-- a status and a text tell the end that the program means under the engine from the beginning on,
-- which is not want of memory
pub record Reported (told : Bool) (program : View) (engine : Engine) (first : Begin TableHost) (status : ℕ)
    (text : List ℕ) : Type 0 where
  pub end : Finish TableHost
  pub instructions : ℕ
  pub means : Means table_law program engine first end instructions
  pub number : status ≡ status_of end.answer
  pub written : text ≡ answer_text told end end.answer
  pub memory : end.answer ≡ Failed NoMemory → ⊥
