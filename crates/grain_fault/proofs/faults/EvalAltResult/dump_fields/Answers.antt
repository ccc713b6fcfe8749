-- Two fields, after the name of the variant.
use Rattle.std.proofs.Common.{rules}
use Rattle.grain_fault.specs.Problems.{problem_of}
use Rattle.grain_fault.specs.FieldsView.{field_of}
use Rattle.grain_fault.proofs.Dumping.{two_dumped}
use Rattle.grain_fault.proofs.faults.EvalAltResult.dump_fields.Goals as goal

pub returns-in_ok-put_field-in-Two : goal.returns-in_ok-put_field-in-Two
returns-in_ok-put_field-in-Two c =
    two_dumped (problem_of c.args.self.now) c.put_field-in-Two-2.result
    (field_of c.in-Two.first) (field_of c.in-Two.second) c.args.map.now
    c.put.new.map c.put_field-in-Two.new.map c.put_field-in-Two-2.new.map (search rules)
    (search rules) (search rules) c.put_field-in-Two-2.ensures
