-- What is done with the value of a frame's `this`.
use Rattle.std.specs.Prelude.{Option, Some, None}
use Rattle.grain_value.specs.declared.values.Held.{Held}
use Rattle.grain_fault.specs.declared.places.Position.{Position}
use Rattle.grain_fault.specs.Problems.{Plain, UnboundThis}
use Rattle.grain_means.specs.Worlds.{Frame, World, Act, Setup}
use Rattle.grain_means.specs.Rules.{raised}

-- what follows from the value of a `this`; if there is none, that is a fault at this position
abbrev pub at_held : {S : Type 0} → Setup S → Option Held → Position → Frame → World S →
    (Held → Act S) → Act S
at_held m None q f w go = raised m f (Plain UnboundThis q) w
at_held m (Some h) q f w go = go h
