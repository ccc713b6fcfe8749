-- Exits: how a script ends itself.
use Rattle.std.specs.Prelude.{Option, Some, None}
use Rattle.grain_value.specs.declared.values.Dynamic.{Dynamic}
use Rattle.grain_fault.specs.Problems.{FaultKind, Exit, Problem, Plain, InFunctionCall, InModule, SystemError, NoMemory}

-- the value with which a kind of fault ends a script
abbrev pub exit_of_kind : FaultKind → Option Dynamic
exit_of_kind (Exit v) = Some v
exit_of_kind k = None

-- the value of an exit
abbrev pub exit_value : Problem → Option Dynamic
exit_value (Plain k p) = exit_of_kind k
exit_value (InFunctionCall f s x p) = None
exit_value (InModule m x p) = None
exit_value (SystemError s e) = None
exit_value NoMemory = None
