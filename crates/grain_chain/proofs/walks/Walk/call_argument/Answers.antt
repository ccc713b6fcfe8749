use Rattle.std.proofs.Common.{◌+◌, ◌-◌, List, Option, Some, None, map, sym, subst}
use Rattle.grain_value.specs.Tree.{Tree}
use Rattle.grain_value.specs.View.{value_of}
use Rattle.grain_value.specs.declared.values.Dynamic.{Dynamic}
use Rattle.grain_value.specs.declared.values.FnPtr.{FnPtr}
use Rattle.grain_chain.specs.Walking.{place_of}
use Rattle.grain_chain.specs.Going.{Goes}
use Rattle.grain_chain.specs.MethodSteps.{asking_task, first_task, operands_of}
use Rattle.grain_chain.specs.declared.requests.What.TheVariants as what
use Rattle.grain_chain.proofs.walks.Walk.call_argument.Goals as goal

pub returns-in-Err-clause-goes : goal.returns-in-Err-clause-goes
returns-in-Err-clause-goes c = λ x.
    let w = c.args.self.now in
    let s = c.args.step in
    let vs = map value_of (operands_of w (s.operand + 1) (s.argc - 1)) in
    let found = c.in-Err.ensures in
    subst (λ (o : Option FnPtr). Goes x w (first_task x w s o c.args.first vs) c.no_pointer.result
    c.no_pointer.new.self) (sym found.1)
    (subst (λ (d : Dynamic). Goes x w (first_task x w s None d vs) c.no_pointer.result
    c.no_pointer.new.self) found.0 (c.no_pointer.ensures.goes x))

pub returns-in_ok-arguments-in-Ok-clause-goes : goal.returns-in_ok-arguments-in-Ok-clause-goes
returns-in_ok-arguments-in-Ok-clause-goes c = λ x.
    let w = c.args.self.now in
    let s = c.args.step in
    let vs = map value_of (operands_of w (s.operand + 1) (s.argc - 1)) in
    subst (λ (o : Option FnPtr). Goes x w (first_task x w s o c.args.first vs) c.invoke.result
    c.invoke.new.self) (sym c.in-Ok.ensures)
    (subst (λ (l : List Tree). Goes x w (asking_task x w s (what.Pointer c.in-Ok.pointer)
    (Some (place_of w)) (map value_of l)) c.invoke.result c.invoke.new.self)
    c.in_ok-arguments-in-Ok.ensures.copied (c.invoke.ensures.goes x))
