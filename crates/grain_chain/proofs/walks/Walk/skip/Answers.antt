use Rattle.std.proofs.Common.{false, subst}
use Rattle.grain_value.specs.declared.values.Dynamic.TheVariants as dynamic
use Rattle.grain_chain.specs.Going.{Goes, Needs, rest}
use Rattle.grain_chain.specs.declared.walks.Walk.{Walk}
use Rattle.grain_chain.proofs.Strides.{then_goes}
use Rattle.grain_means.specs.Tasks.{WalkEnded}
use Rattle.grain_chain.specs.Walking.{backs}
use Rattle.grain_chain.proofs.Strides.{passes}
use Rattle.grain_chain.proofs.Tails.{giving}
use Rattle.grain_chain.proofs.walks.Walk.skip.Goals as goal

pub returns-clause-goes : goal.returns-clause-goes
returns-clause-goes c =
    let w = c.args.self.now in
    let x = c.args.context in
    then_goes x w (giving w dynamic.Unit) c.walk_back.new.self _ (rest x w (WalkEnded dynamic.Unit false))
    c.walk_back.result (passes x w (rest x w (WalkEnded dynamic.Unit false)))
    (subst (λ (u : Walk). let w2 : Walk = record u { gives = dynamic.Unit } in
    Goes x w2 (rest x w2 (WalkEnded dynamic.Unit false)) c.walk_back.result c.walk_back.new.self)
    c.in_ok-pass_mark.ensures.passed c.walk_back.ensures.goes)

pub returns-clause-needs : goal.returns-clause-needs
returns-clause-needs c =
    subst (λ (u : Walk). Needs c.args.context.program.now c.walk_back.new.self c.walk_back.result (backs u))
    c.in_ok-pass_mark.ensures.passed c.walk_back.ensures.needs
