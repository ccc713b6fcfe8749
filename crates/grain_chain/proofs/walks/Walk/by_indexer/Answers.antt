use Rattle.std.proofs.Common.{sym, subst, arith}
use Rattle.grain_means.specs.Walks
use Rattle.grain_chain.specs.Walking.{place_of, role_in}
use Rattle.grain_chain.specs.Going.{Goes, rest, setting, next_step}
use Rattle.grain_chain.specs.declared.origins.Role.{Role}
use Rattle.grain_chain.proofs.Stepping.{needs_more}
use Rattle.grain_chain.proofs.walks.Walk.by_indexer.Goals as goal

pub returns-in-Writes-clause-goes : goal.returns-in-Writes-clause-goes
returns-in-Writes-clause-goes c = λ x.
    subst (λ (o : Role). Goes x c.args.self.now (Walks.by_indexer (setting x c.args.self.now)
    c.args.self.now.step c.args.pos c.args.bracket (role_in o c.args.self.now.value) c.args.index
    (next_step x c.args.self.now) (place_of c.args.self.now) (rest x c.args.self.now))
    c.set_value_by_index.result
    c.set_value_by_index.new.self) (sym c.in-Writes.is)
    (c.set_value_by_index.ensures.goes x)

pub returns-in-Writes-clause-needs : goal.returns-in-Writes-clause-needs
returns-in-Writes-clause-needs c = λ p at.
    needs_more p c.set_value_by_index.new.self c.set_value_by_index.result _ _
    (c.set_value_by_index.ensures.needs p) (omega arith)

pub returns-in-Operates-clause-goes : goal.returns-in-Operates-clause-goes
returns-in-Operates-clause-goes c = λ x.
    subst (λ (o : Role). Goes x c.args.self.now (Walks.by_indexer (setting x c.args.self.now)
    c.args.self.now.step c.args.pos c.args.bracket (role_in o c.args.self.now.value) c.args.index
    (next_step x c.args.self.now) (place_of c.args.self.now) (rest x c.args.self.now))
    c.read_by_index.result c.read_by_index.new.self) (sym c.in-Operates.is)
    (c.read_by_index.ensures.goes x)

pub returns-in-Reads-clause-goes : goal.returns-in-Reads-clause-goes
returns-in-Reads-clause-goes c = λ x.
    subst (λ (o : Role). Goes x c.args.self.now (Walks.by_indexer (setting x c.args.self.now)
    c.args.self.now.step c.args.pos c.args.bracket (role_in o c.args.self.now.value) c.args.index
    (next_step x c.args.self.now) (place_of c.args.self.now) (rest x c.args.self.now))
    c.get_own_by_index.result
    c.get_own_by_index.new.self) (sym c.in-Reads.is)
    (c.get_own_by_index.ensures.goes x)

pub returns-in-Reads-clause-needs : goal.returns-in-Reads-clause-needs
returns-in-Reads-clause-needs c = λ p at.
    needs_more p c.get_own_by_index.new.self c.get_own_by_index.result _ _
    (c.get_own_by_index.ensures.needs p at) (omega arith)

pub returns-in-Passes-clause-goes : goal.returns-in-Passes-clause-goes
returns-in-Passes-clause-goes c = λ x.
    subst (λ (o : Role). Goes x c.args.self.now (Walks.by_indexer (setting x c.args.self.now)
    c.args.self.now.step c.args.pos c.args.bracket (role_in o c.args.self.now.value) c.args.index
    (next_step x c.args.self.now) (place_of c.args.self.now) (rest x c.args.self.now))
    c.get_own_by_index-in-Passes.result
    c.get_own_by_index-in-Passes.new.self) (sym c.in-Passes.is)
    (c.get_own_by_index-in-Passes.ensures.goes x)

pub returns-in-Passes-clause-needs : goal.returns-in-Passes-clause-needs
returns-in-Passes-clause-needs c = λ p at.
    needs_more p c.get_own_by_index-in-Passes.new.self c.get_own_by_index-in-Passes.result _ _
    (c.get_own_by_index-in-Passes.ensures.needs p at) (omega arith)
