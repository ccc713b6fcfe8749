-- The first that fits is among those that are left.
use Rattle.std.proofs.Common.{◌≡◌, drop}
use Rattle.grain_module.specs.Modules.{variable_named}
use Rattle.grain_module.proofs.modules.Module.get_var.Given as goal

abbrev pub invariant-loop-variable : goal.invariant-loop-variable
invariant-loop-variable l =
    variable_named l.name (drop l.variable-index l.variable-items) ≡ variable_named l.name l.self.variables
