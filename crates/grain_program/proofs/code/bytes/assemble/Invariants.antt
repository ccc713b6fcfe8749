-- So far the code has the bytes of the instructions so far, and each of them fits.
use Rattle.std.proofs.Common.{◌≡◌, take}
use Rattle.std.specs.List.{flat_map, AllByRecursion}
use Rattle.grain_program.specs.Spelling.{spelling, OpFits}
use Rattle.grain_program.proofs.code.bytes.assemble.Given as goal

abbrev pub invariant-loop-op : goal.invariant-loop-op
invariant-loop-op l = record {
  bytes : l.code.items ≡ flat_map spelling (take l.op-index l.ops);
  fits : AllByRecursion OpFits (take l.op-index l.ops);
}
