-- The three classes of faults: each fault is in exactly one.
use Rattle.std.specs.Prelude.{Bool, true, false, not, ◌&&◌}
use Rattle.grain_fault.specs.Problems.{Problem, Plain, InFunctionCall, InModule, SystemError, NoMemory}
use Rattle.grain_fault.specs.Table.{Class, Pseudo, Catchable, System, row}

-- what leaves a call or a module may be caught, whatever it wraps; a host's own failure and want of
-- memory may not
abbrev pub class_of : Problem → Class
class_of (Plain k p) = (row k).class
class_of (InFunctionCall f s x p) = Catchable
class_of (InModule m x p) = Catchable
class_of (SystemError s e) = System
class_of NoMemory = System

abbrev pub pseudo_class : Class → Bool
pseudo_class Pseudo = true
pseudo_class Catchable = false
pseudo_class System = false

abbrev pub catchable_class : Class → Bool
catchable_class Pseudo = false
catchable_class Catchable = true
catchable_class System = false

abbrev pub system_class : Class → Bool
system_class Pseudo = false
system_class Catchable = false
system_class System = true

-- whether the fault is no fault, but how control leaves a construct
abbrev pub pseudo_error : Problem → Bool
pseudo_error f = pseudo_class (class_of f)

-- whether a script may catch the fault
abbrev pub catchable : Problem → Bool
catchable f = catchable_class (class_of f)

-- whether the fault ends the run, whatever the script does
abbrev pub system_exception : Problem → Bool
system_exception f = system_class (class_of f)

-- one of the three holds, and the two others do not
abbrev pub exactly_one : Bool → Bool → Bool → Bool
exactly_one true b c = not b && not c
exactly_one false true c = not c
exactly_one false false c = c
