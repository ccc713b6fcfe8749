-- What the host has to show a segment of a text.
use Rattle.std.specs.Prelude.{◌≡◌, [], ◌∷◌, Option, Some, None}
use Rattle.grain_value.specs.Writing.{kind_of}
use Rattle.grain_value.specs.declared.natives.Native.{Native}
use Rattle.grain_value.specs.declared.values.Dynamic.{Dynamic}
use Rattle.grain_value.specs.declared.values.Held.{Held}
use Rattle.grain_fault.specs.declared.places.Position.{Position}
use Rattle.grain_host.specs.Law.{Law, native_of}
use Rattle.grain_means.specs.Rules.{to_string}
use Rattle.grain_frame.specs.Natives.{Seeks}
use Rattle.grain_frame.specs.declared.native_calls.Sought.{Sought}

-- a segment that is read as this value and is held so: there is no native for it, or this was found for
-- the one that there is
abbrev pub SeeksShown : {S : Type 0} → Law S → S → Dynamic → Held → Position → Option Sought → Type 0
SeeksShown law s v h p None = native_of law s to_string (kind_of v ∷ []) ≡ None
SeeksShown law s v h p (Some found) = (n : Native)
    × (native_of law s to_string (kind_of v ∷ []) ≡ Some n)
    × Seeks law s to_string None (h ∷ []) p found
