use Rattle.std.proofs.Common.{arith}
use Rattle.grain_host.proofs.Given.{at_place, behind_receiver}
use Rattle.grain_host.proofs.register_natives.argument.Goals as goal

pub returns-in-None : goal.returns-in-None
returns-in-None c =
    let args = c.args.args.now in
    rw c.in-None.is (at_place args.values c.args.index c.get.result c.get.ensures)

pub returns-in-Some-2 : goal.returns-in-Some-2
returns-in-Some-2 c =
    let args = c.args.args.now in
    let held = c.in-Some-2.field-0 in
    rw c.in-Some-2.is (behind_receiver held.value args.values c.args.index c.get-in-Some-2.result
    (omega arith) c.get-in-Some-2.ensures)
