use Rattle.std.proofs.Common.{Some, None, codes, sym, ◌∙◌, subst}
use Rattle.grain_means.specs.Walks
use Rattle.grain_chain.specs.Going.{Goes, Takes, rest}
use Rattle.grain_chain.specs.declared.walks.Walk.{Walk}
use Rattle.grain_chain.proofs.Strides.{stops_takes, marked}
use Rattle.grain_chain.proofs.Roots.{stops_need}
use Rattle.grain_chain.specs.Standings.{Stands}
use Rattle.grain_chain.proofs.Named.{index_by_value, own_index}
use Rattle.grain_fault.specs.Problems.{Plain, DataRace}
use Rattle.grain_chain.proofs.walks.Walk.index_by_value.Goals as goal

pub at_index-requires : goal.at_index-requires
at_index-requires c = (
  c.requires.0,
  (
    subst (λ (u : Walk). Stands u.trail c.requires.0) (sym c.in_ok-pass_mark.ensures.passed)
        c.requires.1.0,
    c.requires.1.1,
  ),
)

pub returns-in-Some-clause-takes : goal.returns-in-Some-clause-takes
returns-in-Some-clause-takes c =
    let w = c.args.self.now in
    let x = c.args.context in
    let t = c.requires.0 in
    let stands = subst (λ (u : Walk). Stands u.trail t)
    (sym c.in_ok-pass_mark.ensures.passed) c.requires.1.0 in
    index_by_value x w c.at_index.new.self c.args.role c.args.operand c.args.pos c.args.bracket t
    (Some c.in-Some.index) c.at_index.result c.requires.1.0 c.requires.1.1
    (sym c.in-Some.is ∙ c.in_ok-index.ensures)
    (subst (λ (u : Walk). Takes x u (own_index x u c.args.role c.args.operand c.args.pos c.args.bracket t
    c.in-Some.index) c.at_index.result c.at_index.new.self) c.in_ok-pass_mark.ensures.passed
    (c.at_index.ensures.takes t stands))

pub returns-in-None-clause-takes : goal.returns-in-None-clause-takes
returns-in-None-clause-takes c =
    let w = c.args.self.now in
    let x = c.args.context in
    index_by_value x w c.raise_data_race.new.self c.args.role c.args.operand c.args.pos c.args.bracket
    c.requires.0 None c.stopping.result c.requires.1.0 c.requires.1.1
    (sym c.in-None.is ∙ c.in_ok-index.ensures) (stops_takes x (marked w) c.raise_data_race.new.self _
    c.raise_data_race.result c.stopping.result c.stopping.ensures
    (subst (λ (u : Walk). Goes x u (Walks.failing u.step (Plain (DataRace (codes "variable ''")) c.args.pos)
    (rest x u)) c.raise_data_race.result c.raise_data_race.new.self) c.in_ok-pass_mark.ensures.passed
    (c.raise_data_race.ensures.goes x)))

pub returns-in-None-clause-needs : goal.returns-in-None-clause-needs
returns-in-None-clause-needs c = λ n.
    stops_need c.args.context.program.now c.raise_data_race.new.self c.raise_data_race.result
    c.stopping.result n c.stopping.ensures (c.raise_data_race.ensures.needs c.args.context.program.now n)
