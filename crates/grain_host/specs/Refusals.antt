-- The failures of the host in memory itself.
use Rattle.std.specs.Prelude.{ℕ, List, [], ◌++◌, codes}
use Rattle.std.specs.Fmt.{decimal}
use Rattle.grain_value.specs.declared.values.Dynamic.TheVariants as dynamic
use Rattle.grain_fault.specs.Places.{nowhere}
use Rattle.grain_fault.specs.Problems.{Plain, Runtime, SystemError}
use Rattle.grain_host.specs.Law.{Reply, Failed}

-- the host's own failure, for this reason
abbrev pub refused : List ℕ → Reply
refused reason = Failed (SystemError [] reason)

-- the call of a key that has no native, or of one that has no form for these arguments; and a token
-- that is not pending
abbrev pub unknown : Reply
unknown = refused (codes "unknown to the table host")

-- the step of this number fails
abbrev pub failure : ℕ → Reply
failure n = Failed (Plain (Runtime (dynamic.Text (codes "host failure " ++ decimal n))) nowhere)
