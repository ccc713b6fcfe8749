use Rattle.std.proofs.Common.{◌≡◌, Bool, List, false, Ok, ap, ◌∙◌, arith}
use Rattle.std.specs.Prelude.{◌||◌}
use Rattle.grain_chain.specs.Going.{rest}
use Rattle.grain_means.specs.Tasks.{WalkEnded}
use Rattle.grain_chain.proofs.Loops.{back_answers, back_gives_up, back_turns, back_home, fewer}
use Rattle.std.proofs.Common.{rules, is_ok, length}
use Rattle.grain_chain.specs.declared.origins.OuterRoot.{OuterRoot}
use Rattle.grain_chain.proofs.walks.Walk.walk_back.Goals as goal

pub returns-in_default-clause-goes : goal.returns-in_default-clause-goes
returns-in_default-clause-goes c =
    let w0 = c.args.self.now in
    let w = c.back.self in
    let x = c.args.context in
    let t0 = rest x w0 (WalkEnded w0.gives c.args.changed) in
    back_home x w0 t0 w c.leave_root.new.self c.back.changed c.replace-value.result c.replace-value.new.dest
    c.back.invariant.walks c.in_default.ensures c.replace-value.ensures.value

pub returns-in_err-set_back-clause-goes : goal.returns-in_err-set_back-clause-goes
returns-in_err-set_back-clause-goes c =
    let w0 = c.args.self.now in
    let w = c.back.self in
    let x = c.args.context in
    let t0 = rest x w0 (WalkEnded w0.gives c.args.changed) in
    let out : is_ok c.from_residual.result ≡ false = search rules in
    let none : is_ok c.set_back.result ≡ false = search rules in
    back_gives_up x w0 t0 w c.set_back.new.self c.in-Some.gone c.leave_root.new.self c.back.changed
    c.counts-changed.result c.set_back.result c.from_residual.result c.back.invariant.walks c.in-Some.ensures
    c.counts-changed.ensures none out c.set_back.ensures.goes

pub back-preserved : goal.back-preserved
back-preserved c =
    let w0 = c.args.self.now in
    let w = c.back.self in
    let x = c.args.context in
    let t0 = rest x w0 (WalkEnded w0.gives c.args.changed) in
    let got = back_turns x w0 t0 w c.set_back.new.self c.in-Some.gone c.leave_root.new.self c.back.changed
    c.counts-changed.result c.set_back.result c.back.invariant.walks c.in-Some.ensures
    c.counts-changed.ensures (c.in_ok-set_back.was ∙ ap Ok c.in-None.is) c.set_back.ensures.goes in
    let shorter = ap (λ (l : List OuterRoot). length l) got.1.outer in
    let one = fewer w c.in-Some.gone c.leave_root.new.self c.in-Some.ensures in
    record { walks = got.0; less = omega (arith, shorter, one, c.back.invariant.less) }

pub returns-in-Some-2-clause-goes : goal.returns-in-Some-2-clause-goes
returns-in-Some-2-clause-goes c =
    let w0 = c.args.self.now in
    let w = c.back.self in
    let x = c.args.context in
    let t0 = rest x w0 (WalkEnded w0.gives c.args.changed) in
    back_answers x w0 t0 w c.set_back.new.self c.in-Some.gone c.leave_root.new.self c.back.changed
    c.counts-changed.result c.in-Some-2.answer c.set_back.result c.back.invariant.walks c.in-Some.ensures
    c.counts-changed.ensures
    (c.in_ok-set_back.was ∙ ap Ok c.in-Some-2.is) c.set_back.ensures.goes

pub set_back-requires : goal.set_back-requires
set_back-requires c = λ is.
    c.counts-changed.ensures
    ∙ ap (λ (b : Bool). b || c.back.changed) is
