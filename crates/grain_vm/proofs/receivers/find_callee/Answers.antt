-- The first argument is looked at.
use Rattle.std.proofs.Common.{◌≡◌, ◌<◌, ◌-◌, suc, sym, subst, arith, rules}
use Rattle.grain_vm.specs.Receivers.{Called, FindsCallee}
use Rattle.grain_vm.proofs.Callees.{first_asked}
use Rattle.grain_vm.proofs.receivers.find_callee.Goals as goal

pub returns-else-count-eq0 : goal.returns-else-count-eq0
returns-else-count-eq0 g c =
    let stands = c.in-Other.ensures in
    let some : 0 < c.args.count = search rules in
    let more : c.args.count ≡ suc (c.args.count - 1) = omega (arith, some) in
    subst (λ (x : Called). FindsCallee c.args.run.now c.args.steps.now x c.find_first.result
    c.find_first.new.run c.find_first.new.steps)
    (sym (first_asked c.args.context.program.now c.args.run.now.cells c.args.run.now.stacks.operands
    c.args.address c.args.count (c.args.count - 1) stands.0 more stands.1 stands.2))
    c.find_first.ensures
