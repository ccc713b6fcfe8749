use Rattle.grain_host.proofs.Given.{the_first}
use Rattle.std.proofs.Common.{◌≡◌, length}
use Rattle.grain_host.proofs.table_natives.first_of_two.Goals as goal

pub returns-then-len-eq2 : goal.returns-then-len-eq2
returns-then-len-eq2 c =
    let two : length c.args.values.now ≡ 2 = cc in
    the_first c.args.values.now c.get.result two c.get.ensures
