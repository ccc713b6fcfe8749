use Rattle.std.proofs.Common.{◌+◌, subst}
use Rattle.grain_chain.specs.Going.{Needs}
use Rattle.grain_chain.specs.declared.walks.Walk.{Walk}
use Rattle.grain_chain.proofs.Roots.{stops_need}
use Rattle.grain_chain.proofs.Named.{index_by_host}
use Rattle.grain_chain.specs.Walking.{AtStep, steps_left}
use Rattle.grain_chain.proofs.walks.Walk.index_by_host.Goals as goal

pub returns-clause-takes : goal.returns-clause-takes
returns-clause-takes c =
    index_by_host c.args.context c.args.self.now c.pass_mark.new.self c.by_indexer.new.self c.args.role
    c.args.operand c.args.pos c.args.bracket c.requires.host.0 c.in_ok-index.index c.by_indexer.result
    c.stopping.result c.in_ok-pass_mark.ensures.passed c.requires.host.1.0 c.requires.host.1.1
    c.in_ok-index.ensures c.stopping.ensures (c.by_indexer.ensures.goes c.args.context)

pub returns-clause-needs : goal.returns-clause-needs
returns-clause-needs c =
    let w = c.args.self.now in
    let p = c.args.context.program.now in
    stops_need p c.by_indexer.new.self c.by_indexer.result c.stopping.result _ c.stopping.ensures
    (subst (λ (u : Walk). AtStep p u → Needs p c.by_indexer.new.self c.by_indexer.result
    (steps_left p u + 3)) c.in_ok-pass_mark.ensures.passed (c.by_indexer.ensures.needs p) c.requires.at)
