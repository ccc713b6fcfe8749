use Rattle.std.proofs.Common.{◌+◌, subst}
use Rattle.grain_program.specs.View.{name_of}
use Rattle.grain_chain.specs.Going.{Needs}
use Rattle.grain_chain.specs.declared.walks.Walk.{Walk}
use Rattle.grain_chain.proofs.Roots.{stops_need}
use Rattle.grain_chain.proofs.Named.{property_by_host}
use Rattle.grain_chain.specs.Walking.{steps_left}
use Rattle.grain_chain.proofs.walks.Walk.property_by_host.Goals as goal

pub returns-clause-takes : goal.returns-clause-takes
returns-clause-takes c =
    property_by_host c.args.context c.args.self.now c.pass_mark.new.self c.by_accessor.new.self c.args.role
    c.args.name c.args.getter c.args.setter c.args.pos
    (name_of c.args.context.program.now c.args.name) c.requires.host.0 c.by_accessor.result c.stopping.result
    c.in_ok-pass_mark.ensures.passed c.requires.host.1.0 c.requires.host.1.1 c.stopping.ensures
    c.by_accessor.ensures.goes

pub returns-clause-needs : goal.returns-clause-needs
returns-clause-needs c =
    let p = c.args.context.program.now in
    stops_need p c.by_accessor.new.self c.by_accessor.result c.stopping.result _ c.stopping.ensures
    (subst (λ (u : Walk). Needs p c.by_accessor.new.self c.by_accessor.result
    (steps_left p u + 3)) c.in_ok-pass_mark.ensures.passed c.by_accessor.ensures.needs)
