use Rattle.std.proofs.Common.{Some, sym, ap, ◌∙◌, subst, arith}
use Rattle.grain_program.specs.View.{name_of}
use Rattle.grain_means.specs.Tasks.{Task}
use Rattle.grain_means.specs.Walks
use Rattle.grain_chain.specs.Walking.{place_of}
use Rattle.grain_chain.specs.Going.{Goes, rest}
use Rattle.grain_chain.specs.MethodSteps.{asking_task, own_task, step_arguments}
use Rattle.grain_chain.specs.declared.requests.What.{What}
use Rattle.grain_chain.proofs.MethodSteps.{own_asks}
use Rattle.grain_chain.proofs.Roots.{stops_need}
use Rattle.grain_chain.proofs.Stepping.{needs_more}
use Rattle.grain_chain.proofs.Strides.{stops_takes}
use Rattle.grain_chain.proofs.walks.Walk.by_own.Goals as goal

pub returns-clause-takes : goal.returns-clause-takes
returns-clause-takes c = λ v stands.
    let w = c.args.self.now in
    let x = c.args.context in
    let s = c.args.step in
    let o = Walks.own_pointer (name_of x.program.now s.name) v in
    let new = c.invoke_with_all.new.self in
    let r = c.invoke_with_all.result in
    stops_takes x w new (Walks.at_mark w.step (rest x w) (own_task x w s o v)) r c.stopping.result
    c.stopping.ensures
    (subst (λ (t : Task). Goes x w (Walks.at_mark w.step (rest x w) t) r new)
    (ap (λ (q : What). asking_task x w s q (Some (place_of w)) (step_arguments x w s))
    (c.in_ok-what.ensures.is v stands) ∙ sym (own_asks x w s v o))
    (c.invoke_with_all.ensures.goes x))

pub returns-clause-needs : goal.returns-clause-needs
returns-clause-needs c =
    let p = c.args.context.program.now in
    stops_need p c.invoke_with_all.new.self c.invoke_with_all.result c.stopping.result _ c.stopping.ensures
    (needs_more p c.invoke_with_all.new.self c.invoke_with_all.result _ _
    (c.invoke_with_all.ensures.needs p c.requires.at c.in_ok-what.ensures.can) (omega arith))
