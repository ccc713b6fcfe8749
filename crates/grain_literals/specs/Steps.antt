-- Steps, each of which may be refused.
use Rattle.std.specs.Prelude.{Option, Some, None, Result, Ok, Err}

-- a step and what follows it, unless the step is refused
abbrev pub and_then : {A B E : Type 0} → Result A E → (A → Result B E) → Result B E
and_then (Ok x) go = go x
and_then (Err e) go = Err e

-- what is there, or the reason for which its absence is refused
abbrev pub present : {A E : Type 0} → E → Option A → Result A E
present e None = Err e
present e (Some x) = Ok x
