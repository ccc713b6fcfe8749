-- Where a fault was raised, and the same fault at another position.
use Rattle.std.specs.Prelude.{Bool, true, false, if◌then◌else◌}
use Rattle.grain_fault.specs.Places.{nowhere, is_nowhere}
use Rattle.grain_fault.specs.Problems.{Problem, Plain, InFunctionCall, InModule, SystemError, NoMemory}
use Rattle.grain_fault.specs.declared.places.Position.{Position}

-- a host's own failure and want of memory have no position
abbrev pub position_of_problem : Problem → Position
position_of_problem (Plain k p) = p
position_of_problem (InFunctionCall f s x p) = p
position_of_problem (InModule m x p) = p
position_of_problem (SystemError s e) = nowhere
position_of_problem NoMemory = nowhere

-- the same fault at this position, with what it wraps as it was; a host's own failure and want of
-- memory stay as they are
abbrev pub at_position : Position → Problem → Problem
at_position p (Plain k q) = Plain k p
at_position p (InFunctionCall f s x q) = InFunctionCall f s x p
at_position p (InModule m x q) = InModule m x p
at_position p (SystemError s e) = SystemError s e
at_position p NoMemory = NoMemory

-- whether the fault has no position ever: a host's own failure and want of memory
abbrev pub never_has_position : Problem → Bool
never_has_position (Plain k p) = false
never_has_position (InFunctionCall f s x p) = false
never_has_position (InModule m x p) = false
never_has_position (SystemError s e) = true
never_has_position NoMemory = true

-- the fault at this position where it has none, and else as it is
abbrev pub at_position_if_none : Position → Problem → Problem
at_position_if_none p f = if is_nowhere (position_of_problem f) then at_position p f else f
