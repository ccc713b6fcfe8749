use Rattle.std.proofs.Common.{◌≡◌, ◌++◌, drop, map, string_bytes, option_map}
use Rattle.grain_addresses.specs.Queries.{queries_of}
use Rattle.grain_addresses.proofs.queries.queries_of.Given as goal

abbrev pub invariant-loop-word : goal.invariant-loop-word
invariant-loop-word l =
    option_map (λ qs. l.found.items ++ qs)
    (queries_of (map string_bytes (drop l.word-index l.words))) ≡
    queries_of (map string_bytes l.words)
