-- What a native is given in a walk.
use Rattle.std.specs.Prelude.{List, ◌∷◌, Option, Some, None}
use Rattle.grain_value.specs.declared.values.Held.{Held}

-- all that a native is given: what is lent stands first
abbrev pub all_given : Option Held → List Held → List Held
all_given None args = args
all_given (Some x) args = x ∷ args
