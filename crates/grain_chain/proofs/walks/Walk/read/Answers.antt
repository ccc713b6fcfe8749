use Rattle.std.proofs.Common.{false, subst}
use Rattle.grain_chain.specs.Going.{Goes, Needs, rest}
use Rattle.grain_chain.specs.declared.walks.Walk.{Walk}
use Rattle.grain_means.specs.Tasks.{WalkEnded}
use Rattle.grain_chain.specs.Walking.{backs}
use Rattle.grain_chain.proofs.Tails.{goes_read}
use Rattle.grain_chain.proofs.walks.Walk.read.Goals as goal

pub returns-clause-goes : goal.returns-clause-goes
returns-clause-goes c =
    let w = c.args.self.now in
    let x = c.args.context in
    goes_read x w c.walk_back.new.self c.target.result.now c.in_ok-value.value c.walk_back.result
    c.target.ensures c.in_ok-value.ensures
    (subst (λ (u : Walk). let w2 : Walk = record u { gives = c.in_ok-value.value } in
    Goes x w2 (rest x w2 (WalkEnded c.in_ok-value.value false)) c.walk_back.result c.walk_back.new.self)
    c.in_ok-pass_mark.ensures.passed c.walk_back.ensures.goes)

pub returns-clause-needs : goal.returns-clause-needs
returns-clause-needs c =
    subst (λ (u : Walk). Needs c.args.context.program.now c.walk_back.new.self c.walk_back.result (backs u))
    c.in_ok-pass_mark.ensures.passed c.walk_back.ensures.needs
