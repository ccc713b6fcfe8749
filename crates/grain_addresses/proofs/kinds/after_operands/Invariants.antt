use Rattle.std.proofs.Common.{◌≡◌, ◌+◌, drop}
use Rattle.grain_program.specs.Fields.{present}
use Rattle.grain_addresses.specs.Kinds.{fields_width, after_fields}
use Rattle.grain_addresses.proofs.kinds.after_operands.Given as goal

abbrev pub invariant-loop-place : goal.invariant-loop-place
invariant-loop-place l = record {
  width : l.width + fields_width (present (drop l.place-index l.places)) ≡
      fields_width (present l.places);
  rest : after_fields (present (drop l.place-index l.places)) l.rest ≡
      after_fields (present l.places) l.line;
}
