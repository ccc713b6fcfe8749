-- What contracts see of a `Machine`.
use Rattle.grain_global.specs.declared.engines.Engine.{Engine}
use Rattle.grain_stack.specs.Views.{StacksView}

pub record MachineView : Type 0 where
  pub engine : Engine
  pub stacks : StacksView
