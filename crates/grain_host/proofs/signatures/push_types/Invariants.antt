use Rattle.std.proofs.Common.{◌≡◌, ◌++◌, [], map, drop}
use denote.Text.{Utf8}
use denote.Shadow.{shadow}
use Rattle.grain_value.specs.View.{value_of}
use Rattle.grain_host.specs.Signatures.{types_text}
use Rattle.grain_host.proofs.signatures.push_types.Given as goal

-- what is left to write
abbrev pub invariant-loop-index : goal.invariant-loop-index
invariant-loop-index l = shadow (Utf8 l.lead) ×
    (l.out ++ types_text l.lead (map value_of (drop l.index l.values)) ≡ l.initial.out ++
    types_text [] (map value_of l.values))
