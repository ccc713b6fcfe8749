use Rattle.std.proofs.Common.{sym, subst, arith}
use Rattle.grain_means.specs.Walks
use Rattle.grain_chain.specs.Walking.{place_of, role_in}
use Rattle.grain_chain.specs.Going.{Goes, rest, setting, next_step}
use Rattle.grain_chain.specs.declared.origins.Role.{Role}
use Rattle.grain_chain.proofs.Stepping.{needs_more}
use Rattle.grain_chain.proofs.walks.Walk.by_accessor.Goals as goal

pub returns-in-Writes-clause-goes : goal.returns-in-Writes-clause-goes
returns-in-Writes-clause-goes c =
    subst (λ (o : Role). Goes c.args.context c.args.self.now (Walks.by_accessor
    (setting c.args.context c.args.self.now)
    c.args.self.now.step c.args.name c.args.getter c.args.setter c.args.pos (role_in o c.args.self.now.value)
    (next_step c.args.context c.args.self.now) (place_of c.args.self.now)
    (rest c.args.context c.args.self.now))
    c.set_value.result c.set_value.new.self) (sym c.in-Writes.is) c.set_value.ensures.goes

pub returns-in-Operates-clause-goes : goal.returns-in-Operates-clause-goes
returns-in-Operates-clause-goes c =
    subst (λ (o : Role). Goes c.args.context c.args.self.now (Walks.by_accessor
    (setting c.args.context c.args.self.now)
    c.args.self.now.step c.args.name c.args.getter c.args.setter c.args.pos (role_in o c.args.self.now.value)
    (next_step c.args.context c.args.self.now) (place_of c.args.self.now)
    (rest c.args.context c.args.self.now))
    c.get_property.result c.get_property.new.self) (sym c.in-Operates.is) c.get_property.ensures.goes

pub returns-in-Reads-clause-goes : goal.returns-in-Reads-clause-goes
returns-in-Reads-clause-goes c =
    subst (λ (o : Role). Goes c.args.context c.args.self.now (Walks.by_accessor
    (setting c.args.context c.args.self.now)
    c.args.self.now.step c.args.name c.args.getter c.args.setter c.args.pos (role_in o c.args.self.now.value)
    (next_step c.args.context c.args.self.now) (place_of c.args.self.now)
    (rest c.args.context c.args.self.now))
    c.get_own_property.result c.get_own_property.new.self) (sym c.in-Reads.is) c.get_own_property.ensures.goes

pub returns-in-Passes-clause-goes : goal.returns-in-Passes-clause-goes
returns-in-Passes-clause-goes c =
    subst (λ (o : Role). Goes c.args.context c.args.self.now (Walks.by_accessor
    (setting c.args.context c.args.self.now)
    c.args.self.now.step c.args.name c.args.getter c.args.setter c.args.pos (role_in o c.args.self.now.value)
    (next_step c.args.context c.args.self.now) (place_of c.args.self.now)
    (rest c.args.context c.args.self.now))
    c.get_own_property-in-Passes.result c.get_own_property-in-Passes.new.self) (sym c.in-Passes.is)
    c.get_own_property-in-Passes.ensures.goes

pub returns-in-Writes-clause-needs : goal.returns-in-Writes-clause-needs
returns-in-Writes-clause-needs c =
    needs_more c.args.context.program.now c.set_value.new.self c.set_value.result _ _
    c.set_value.ensures.needs (omega arith)
