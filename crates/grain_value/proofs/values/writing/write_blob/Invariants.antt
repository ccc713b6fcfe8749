-- The digits of the bytes so far stand after the word.
use Rattle.std.proofs.Common.{◌++◌, codes, take}
use Rattle.std.specs.List.{flat_map}
use Rattle.std.specs.Fmt.{IsPlainFormatter, HasWritten}
use Rattle.grain_value.specs.Writing.{hex_byte}
use Rattle.grain_value.proofs.values.writing.write_blob.Given as goal

abbrev pub invariant-loop-byte : goal.invariant-loop-byte
invariant-loop-byte g l = IsPlainFormatter l.fn.f →
    HasWritten g.W.Write.write_str_gives l.fn.f
    (codes "blob(" ++ flat_map hex_byte (take l.byte-index l.bytes)) l.f
