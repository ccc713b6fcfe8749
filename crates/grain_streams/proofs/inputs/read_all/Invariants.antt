use Rattle.std.proofs.Common.{◌≡◌, ◌≤◌, ◌++◌, ◌+◌, ◌-◌, length, option_map}
use Rattle.grain_streams.specs.Reads.{AllGot}
use Rattle.grain_streams.proofs.inputs.read_all.Given as goal

abbrev pub invariant-fill : goal.invariant-fill
invariant-fill g l =
    (option_map (λ others. l.bytes.items ++ others)
    (g.S.Source.left l.source) ≡ g.S.Source.left l.initial.source) ×
    (g.S.Source.faults l.initial.source ≤ g.S.Source.faults l.source) × (length l.buffer ≡ 4096) ×
    (length l.bytes.items ≤ l.most + 1) ×
    AllGot g.S.Source.reads (l.most + 1) l.initial.source (length l.bytes.items) l.source

abbrev pub decreases-fill : goal.decreases-fill
decreases-fill g l = l.most + 1 - length l.bytes.items
