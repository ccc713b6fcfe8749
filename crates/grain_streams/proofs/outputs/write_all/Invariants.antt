use Rattle.std.proofs.Common.{◌≡◌, ◌≤◌, ◌-◌, length, take}
use Rattle.grain_streams.specs.Puts.{AllTook}
use Rattle.grain_streams.specs.Streams.{added}
use Rattle.grain_streams.proofs.outputs.write_all.Given as goal

abbrev pub invariant-write : goal.invariant-write
invariant-write g l =
    (g.K.Sink.written l.sink ≡ added (take l.done l.text) (g.K.Sink.written l.initial.sink)) ×
    (g.K.Sink.faults l.initial.sink ≤ g.K.Sink.faults l.sink) × (l.done ≤ length l.text) ×
    AllTook g.K.Sink.puts l.text l.initial.sink l.done l.sink

abbrev pub decreases-write : goal.decreases-write
decreases-write g l = length l.text - l.done
