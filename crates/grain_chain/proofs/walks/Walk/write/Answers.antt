use Rattle.std.proofs.Common.{◌≡◌, true, ap, ◌∙◌, subst}
use Rattle.grain_value.specs.declared.values.Dynamic.TheVariants as dynamic
use Rattle.grain_chain.specs.Going.{Goes, Needs, rest}
use Rattle.grain_chain.specs.declared.walks.Walk.{Walk}
use Rattle.grain_means.specs.Tasks.{WalkEnded}
use Rattle.grain_chain.specs.Standings.{Standing, put_there}
use Rattle.grain_chain.specs.Walking.{backs}
use Rattle.grain_chain.proofs.Tails.{goes_written, written}
use Rattle.grain_chain.proofs.walks.Walk.write.Goals as goal

pub returns-clause-goes : goal.returns-clause-goes
returns-clause-goes c =
    let w = c.args.self.now in
    let x = c.args.context in
    let e : c.put.new.self ≡ put_there w.trail c.args.value =
    c.put.ensures ∙ ap (λ (u : Walk). put_there u.trail c.args.value) c.in_ok-pass_mark.ensures.passed in
    goes_written x w c.walk_back.new.self c.args.value c.walk_back.result
    (subst (λ (t : Standing). Goes x (written w t) (rest x (written w t) (WalkEnded dynamic.Unit true))
    c.walk_back.result c.walk_back.new.self) e
    (subst (λ (u : Walk). let w2 : Walk = record u { trail = c.put.new.self; gives = dynamic.Unit } in
    Goes x w2 (rest x w2 (WalkEnded dynamic.Unit true)) c.walk_back.result c.walk_back.new.self)
    c.in_ok-pass_mark.ensures.passed c.walk_back.ensures.goes))

pub returns-clause-needs : goal.returns-clause-needs
returns-clause-needs c =
    let w = c.args.self.now in
    let e : c.put.new.self ≡ put_there w.trail c.args.value =
    c.put.ensures ∙ ap (λ (u : Walk). put_there u.trail c.args.value) c.in_ok-pass_mark.ensures.passed in
    subst (λ (t : Standing). Needs c.args.context.program.now c.walk_back.new.self c.walk_back.result
    (backs (written w t))) e c.walk_back.ensures.needs
