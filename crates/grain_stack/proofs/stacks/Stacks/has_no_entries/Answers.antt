use Rattle.std.proofs.Common.{◌==◌, refl}
use Rattle.std.specs.Prelude.{bit_or}
use Rattle.grain_stack.proofs.Belonging.{bare_by_bits}
use Rattle.grain_stack.proofs.stacks.Stacks.has_no_entries.Goals as goal

pub returns : goal.returns
returns c =
    bare_by_bits c.self.inside c.args.self.now c.len.result c.len-2.result c.len-3.result
    (bit_or (bit_or c.len.result c.len-2.result) c.len-3.result == 0) c.len.ensures
    c.len-2.ensures c.len-3.ensures c.self.view_is refl
