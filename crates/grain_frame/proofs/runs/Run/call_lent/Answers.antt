use Rattle.grain_frame.proofs.Lent.{lent_refuses, lent_serves}
use Rattle.grain_frame.proofs.runs.Run.call_lent.Goals as goal

pub returns-in-Fault-clause-same : goal.returns-in-Fault-clause-same
returns-in-Fault-clause-same g c = λ m name h args f go fails own at there plain seeks.
    lent_refuses g.H.Host.law c.args.self.now c.args.steps.now c.args.host.now c.args.position m
    name c.args.target h args f go fails own at c.in-Fault.fault
    (λ place. rw c.in-Fault.is at (seeks place))

pub returns-in-Native-clause-same : goal.returns-in-Native-clause-same
returns-in-Native-clause-same g c = λ m name h args f go fails own at there plain seeks.
    lent_serves g.H.Host.law c.args.self.now c.args.steps.now c.args.host.now c.args.position m
    name c.args.target h args f go fails own at c.in-Native.key c.in-Native.values
    (λ place. rw c.in-Native.is at (seeks place)) c.requires.target plain
    c.lend.result c.lend.new.self c.lend.new.steps c.lend.new.host (c.lend.ensures.same h there)

pub returns-in-Fault-clause-writable : goal.returns-in-Fault-clause-writable
returns-in-Fault-clause-writable g c = λ writable. writable

pub returns-in-Native-clause-writable : goal.returns-in-Native-clause-writable
returns-in-Native-clause-writable g c = λ writable. c.lend.ensures.writable writable
