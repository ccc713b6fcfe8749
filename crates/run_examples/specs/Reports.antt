-- What is written of a run's end, and of bytes that are no rule.
use Rattle.std.specs.Prelude.{◌≡◌, ℕ, List, [], ◌∷◌, ◌++◌, Result, Ok, Err, codes}
use Rattle.std.specs.Fmt.{decimal, signed_decimal}
use Rattle.grain_value.specs.Cells.{seen}
use Rattle.grain_value.specs.Writing.{quoted}
use Rattle.grain_value.specs.declared.stores.Cell.{Cell}
use Rattle.grain_value.specs.declared.values.Dynamic.{Dynamic}
use Rattle.grain_fault.specs.Problems.{problem_of}
use Rattle.grain_fault.specs.Texts.{fault_name, fault_text}
use Rattle.grain_fault.specs.declared.faults.EvalAltResult.{EvalAltResult}
use Rattle.grain_fault.specs.declared.traces.Fault.{Fault}
use Rattle.grain_host.specs.Law.{Law}
use Rattle.grain_host.specs.declared.tables.TableHost.{TableHost}
use Rattle.grain_program.specs.View.{View}
use Rattle.grain_global.specs.declared.engines.Engine.{Engine}
use Rattle.grain_means.specs.Means.{Begin}
use Rattle.grain_value.specs.declared.scopes.Entry.{Entry}
use Rattle.run_examples.specs.Rules.{Ran}
use Rattle.run_examples.specs.declared.budget.Budget.{Budget}
use Rattle.run_examples.specs.declared.prices.PriceList.{PriceList}

-- LF
abbrev pub line_end : List ℕ
line_end = 10 ∷ []

-- the addresses at which the frames stopped, each after a space
abbrev pub addresses : List Fault → List ℕ
addresses [] = []
addresses (entry ∷ entries) = (codes " " ++ decimal entry.address) ++ addresses entries

-- A value as a listing has it, of a cell what it has; or the fault's name, its text and its trace.
abbrev pub end_text : List Cell → Result Dynamic EvalAltResult → List Fault → List ℕ
end_text cells (Ok value) trace = codes "value " ++ quoted (seen cells value) ++ line_end
end_text cells (Err fault) trace =
    codes "fault " ++ fault_name (problem_of fault) ++ line_end ++ fault_text
    (problem_of fault) ++ line_end ++
    codes "trace" ++ addresses trace ++ line_end

-- what is said of the host, and then the end
abbrev pub report : List ℕ → List Cell → Result Dynamic EvalAltResult → List Fault → List ℕ
report said cells result trace = said ++ end_text cells result trace

-- what a host in memory has printed
abbrev pub printed_by : TableHost → List ℕ
printed_by host = host.printed

-- what was charged to a price list, on a line
abbrev pub charged_to : PriceList → List ℕ
charged_to list = codes "charged " ++ signed_decimal list.total ++ line_end

-- what is left of a budget, on a line
abbrev pub left_of : Budget → List ℕ
left_of budget = codes "left " ++ decimal budget.left ++ line_end

-- the text is the report of how the program's run ends over a host of this law: what is said of the
-- host as the run left it, and the end
pub record Reported {S : Type 0} (law : Law S) (said_of : S → List ℕ) (program : View)
    (engine : Engine) (first : Begin S) (text : List ℕ) : Type 0 where
  pub scope : List Entry
  pub cells : List Cell
  pub host : S
  pub result : Result Dynamic EvalAltResult
  pub trace : List Fault
  pub ran : Ran law program engine first scope cells host result trace
  pub written : text ≡ report (said_of host) cells result trace
