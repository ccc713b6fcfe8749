-- The text is the report of the run's own end.
use Rattle.std.proofs.Common.{◌≡◌, ℕ, List, Result, Ok, Err, IfOk}
use Rattle.grain_value.specs.declared.memory.OutOfMemory.{OutOfMemory}
use Rattle.grain_value.specs.declared.values.Dynamic.{Dynamic}
use Rattle.grain_value.specs.declared.scopes.Entry.{Entry}
use Rattle.grain_value.specs.declared.stores.Cell.{Cell}
use Rattle.grain_fault.specs.declared.faults.EvalAltResult.{EvalAltResult}
use Rattle.grain_fault.specs.declared.traces.Fault.{Fault}
use Rattle.grain_host.specs.Law.{Law}
use Rattle.grain_program.specs.View.{View}
use Rattle.grain_global.specs.declared.engines.Engine.{Engine}
use Rattle.grain_means.specs.Means.{Begin}
use Rattle.run_examples.specs.Rules.{Ran}
use Rattle.run_examples.specs.Reports.{Reported, report}

pub reported : {S : Type 0} (law : Law S) (said_of : S → List ℕ) (p : View) (e : Engine)
    (first : Begin S) (scope : List Entry) (cells : List Cell) (host : S) (said : List ℕ)
    (r : Result Dynamic EvalAltResult) (trace : List Fault) →
    Ran law p e first scope cells host r trace → said ≡ said_of host →
    (text : Result (List ℕ) OutOfMemory) → IfOk text (λ t. t ≡ report said cells r trace) →
    IfOk text (Reported law said_of p e first)
reported law said_of p e first scope cells host said r trace ran same (Ok t) written =
    record {
      scope = scope;
      cells = cells;
      host = host;
      result = r;
      trace = trace;
      ran = ran;
      written = rw same at written;
    }
reported law said_of p e first scope cells host said r trace ran same (Err m) written = tt
