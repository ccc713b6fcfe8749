-- The states in which a call of the machine begins and ends.
use Rattle.std.specs.Prelude.{List, Result, Ok, Err}
use Rattle.grain_value.specs.declared.memory.OutOfMemory.{OutOfMemory}
use Rattle.grain_value.specs.declared.values.Dynamic.{Dynamic}
use Rattle.grain_value.specs.declared.scopes.Entry.{Entry}
use Rattle.grain_value.specs.declared.stores.Cell.{Cell}
use Rattle.grain_fault.specs.declared.traces.Fault.{Fault}
use Rattle.grain_fault.specs.declared.faults.EvalAltResult.{EvalAltResult}
use Rattle.grain_fault.specs.declared.faults.EvalAltResult.TheVariants as fault
use Rattle.grain_global.specs.declared.states.GlobalRuntimeState.{GlobalRuntimeState}
use Rattle.grain_means.specs.Worlds.{Answer}
use Rattle.grain_means.specs.Means.{Begin, Finish}

abbrev pub begin : {S : Type 0} → List Entry → List Cell → S → GlobalRuntimeState → Begin S
begin scope cells host global =
    record { scope = scope; cells = cells; host = host; global = global }

abbrev pub finish : {S : Type 0} → List Fault → List Entry → List Cell → S → GlobalRuntimeState →
    Answer → Finish S
finish trace scope cells host global answer =
    record {
      answer = answer;
      trace = trace;
      scope = scope;
      cells = cells;
      host = host;
      global =
          global;
    }

-- `OutOfMemory` becomes the fault `Memory`
abbrev pub with_memory_fault : Result (Result Dynamic EvalAltResult) OutOfMemory →
    Result Dynamic EvalAltResult
with_memory_fault (Ok done) = done
with_memory_fault (Err e) = Err fault.Memory
