use Rattle.grain_frame.proofs.Serving.{refuses, serves}
use Rattle.grain_frame.proofs.runs.Run.call_native.Goals as goal

pub returns-in-Fault-clause-same : goal.returns-in-Fault-clause-same
returns-in-Fault-clause-same g c = λ m name args f go fails own at seeks.
    refuses g.H.Host.law c.args.self.now c.args.steps.now c.args.host.now c.args.position m name
    args f go fails own at c.in-Fault.fault (rw c.in-Fault.is at seeks)

pub returns-in-Native-clause-same : goal.returns-in-Native-clause-same
returns-in-Native-clause-same g c = λ m name args f go fails own at seeks.
    serves g.H.Host.law c.args.self.now c.args.steps.now c.args.host.now c.args.position m name
    args f go fails own at
    c.in-Native.key c.in-Native.values c.call_host.result c.call_host.new.self c.call_host.new.steps
    c.call_host.new.host (rw c.in-Native.is at seeks) c.call_host.ensures.same
