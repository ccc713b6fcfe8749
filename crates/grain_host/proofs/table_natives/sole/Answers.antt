use Rattle.grain_host.proofs.Given.{the_one}
use Rattle.std.proofs.Common.{◌≡◌, length}
use Rattle.grain_host.proofs.table_natives.sole.Goals as goal

pub returns-then-len-eq1 : goal.returns-then-len-eq1
returns-then-len-eq1 c =
    let one : length c.args.values.now ≡ 1 = cc in
    the_one c.args.values.now c.get.result one c.get.ensures
