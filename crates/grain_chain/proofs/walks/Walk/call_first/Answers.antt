use Rattle.std.proofs.Common.{◌+◌, List, Some, None, map, sym, ◌∙◌, subst}
use Rattle.grain_value.specs.Tree.{Tree}
use Rattle.grain_value.specs.View.{value_of}
use Rattle.grain_means.specs.Walks
use Rattle.grain_chain.specs.Walking.{AtStep, steps_left}
use Rattle.grain_chain.specs.Going.{Goes, Needs, rest}
use Rattle.grain_chain.specs.MethodSteps.{HasArguments, called_task}
use Rattle.grain_chain.specs.declared.walks.Walk.{Walk}
use Rattle.grain_chain.proofs.MethodSteps.{first_goes, has_some, none_first}
use Rattle.grain_chain.proofs.walks.Walk.call_first.Goals as goal

pub returns-then-lacks_argument-clause-goes : goal.returns-then-lacks_argument-clause-goes
returns-then-lacks_argument-clause-goes c = λ v stands.
    let w = c.args.self.now in
    let x = c.args.context in
    let s = c.args.step in
    subst (λ (l : List Tree). Goes x w
    (Walks.at_mark w.step (rest x w) (called_task x w s v (map value_of l))) c.no_pointer_there.result
    c.no_pointer_there.new.self)
    (sym (none_first _ (sym c.lacks_argument.ensures ∙ c.if-lacks_argument.true)))
    (c.no_pointer_there.ensures.goes x v stands)

pub returns-in-None-clause-goes : goal.returns-in-None-clause-goes
returns-in-None-clause-goes c = λ v stands.
    first_goes c.args.context c.args.self.now c.args.step v None c.pass_mark.new.self
    c.raise_data_race.new.self c.raise_data_race.result
    (sym c.lacks_argument.ensures ∙ c.if-lacks_argument.false) c.in_ok-pass_mark.ensures.passed
    (sym c.in-None.is ∙ c.in_ok-first.ensures) (c.raise_data_race.ensures.goes c.args.context)

pub returns-in-Some-clause-goes : goal.returns-in-Some-clause-goes
returns-in-Some-clause-goes c = λ v stands.
    first_goes c.args.context c.args.self.now c.args.step v (Some c.in-Some.first) c.pass_mark.new.self
    c.call_argument.new.self c.call_argument.result
    (sym c.lacks_argument.ensures ∙ c.if-lacks_argument.false) c.in_ok-pass_mark.ensures.passed
    (sym c.in-Some.is ∙ c.in_ok-first.ensures) (c.call_argument.ensures.goes c.args.context)

pub call_argument-requires : goal.call_argument-requires
call_argument-requires c = record {
  some = has_some c.args.self.now.operands c.args.step.operand c.args.step.argc
      (sym c.lacks_argument.ensures ∙ c.if-lacks_argument.false);
  operands = subst (λ (u : Walk). HasArguments u c.args.step) (sym c.in_ok-pass_mark.ensures.passed)
      c.requires.operands;
}

pub returns-in-Some-clause-needs : goal.returns-in-Some-clause-needs
returns-in-Some-clause-needs c =
    let p = c.args.context.program.now in
    subst (λ (u : Walk). AtStep p u →
    Needs p c.call_argument.new.self c.call_argument.result (steps_left p u + 2))
    c.in_ok-pass_mark.ensures.passed (c.call_argument.ensures.needs p) c.requires.at
