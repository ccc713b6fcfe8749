-- The walk gave a value: there is no trace, and the frame has its own slot again.
use Rattle.std.proofs.Common.{Ok}
use Rattle.grain_means.specs.Means.{setup}
use Rattle.grain_vm.proofs.Chaining.{emptied, unblamed}
use Rattle.grain_vm.proofs.chains.end_chain.Goals as goal

pub returns-in-Value-clause-implements : goal.returns-in-Value-clause-implements
returns-in-Value-clause-implements g c = λ host.
    let p = c.args.context.program.now in
    let e = c.args.context.engine.now in
    let m = setup g.H.Host.law p e in
    let f = c.args.frame.now in
    rw c.in-Value.is (unblamed m f c.push_on.new.frame c.args.run.now c.push_on.new.self c.args.steps.now
    c.push_on.new.steps host host c.args.blamed (Ok c.push_on.result)
    (emptied m (record f { slot = c.args.blamed }) c.push_on.new.frame c.args.run.now c.push_on.new.self
    c.args.steps.now c.push_on.new.steps host host (Ok c.push_on.result)
    (rw c.cut_trace.ensures at (c.push_on.ensures.implements p e host))))
