-- The first that fits is among those that are left.
use Rattle.std.proofs.Common.{◌≡◌, drop}
use Rattle.grain_module.specs.Modules.{function_of}
use Rattle.grain_module.proofs.modules.Module.get_fn.Given as goal

abbrev pub invariant-loop-function : goal.invariant-loop-function
invariant-loop-function l =
    function_of l.name l.kinds (drop l.function-index l.function-items)
    ≡ function_of l.name l.kinds l.self.functions
