-- How often an instruction still waits for a native.
use Rattle.std.specs.Prelude.{◌<◌, ℕ, Option, Some, None, IfSome, Result, Ok, Err}
use Rattle.grain_value.specs.declared.memory.OutOfMemory.{OutOfMemory}
use Rattle.grain_frame.specs.declared.waiting.Performed.{Performed}
use Rattle.grain_frame.specs.declared.waiting.Performed.TheVariants as performed
use Rattle.grain_frame.specs.declared.waiting.Rest.{Rest}
use Rattle.grain_frame.specs.declared.waiting.Rest.TheVariants as rest
use Rattle.grain_frame.specs.declared.waiting.Waiting.{Waiting}

-- once the native is over for which it waits: an op-assignment may ask the host's operator
abbrev pub waits_left : Rest → ℕ
waits_left (rest.Push count next) = 0
waits_left (rest.Assign a) = 1
waits_left (rest.Operate a) = 0
waits_left (rest.Show type_name next) = 0

-- and as the run has it
abbrev pub awaits_left : Option Waiting → ℕ
awaits_left (Some w) = waits_left w.rest
awaits_left None = 0

-- If it waits once more, the run has it (`x`), and it waits less often than before. That the run has one
-- is said by `LandsOrWaits`.
abbrev pub WaitsLess : Rest → Result Performed OutOfMemory → Option Waiting → Type 0
WaitsLess r (Ok (performed.Leads p)) x = Unit {0}
WaitsLess r (Ok performed.Waits) x = IfSome x (λ w. waits_left w.rest < waits_left r)
WaitsLess r (Err e) x = Unit {0}
