-- What contracts see of a `Vm`.
use Rattle.std.specs.Prelude.{List}
use Rattle.grain_fault.specs.declared.traces.Fault.{Fault}
use Rattle.grain_global.specs.declared.engines.Engine.{Engine}
use Rattle.grain_global.specs.declared.states.GlobalRuntimeState.{GlobalRuntimeState}

pub record VmView : Type 0 where
  pub engine : Engine
  pub global : GlobalRuntimeState
  pub trace : List Fault
