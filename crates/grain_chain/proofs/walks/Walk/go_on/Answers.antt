use Rattle.std.proofs.Common.{◌≡◌, ◌+◌, ◌<◌, ◌∷◌, [], refl, sym, ap, ◌∙◌, subst, arith}
use Rattle.grain_means.specs.Walks
use Rattle.grain_chain.specs.Walking.{place_of}
use Rattle.grain_chain.specs.Going.{Goes, Needs, rest, setting, next_step}
use Rattle.grain_chain.specs.declared.walks.Walk.{Walk}
use Rattle.grain_chain.proofs.Strides.{from_same, then_goes}
use Rattle.grain_chain.proofs.Stepping.{needs_more}
use Rattle.grain_chain.specs.Walking.{origin_of}
use Rattle.grain_value.specs.Operands.{read_write}
use Rattle.grain_chain.specs.Walking.{HasAllOperands, count, backs, steps_left, next_of}
use Rattle.grain_chain.specs.Going.{in_root}
use Rattle.grain_chain.specs.declared.origins.Onward.{Onward}
use Rattle.grain_chain.proofs.Roots.{enters}
use Rattle.grain_chain.proofs.Stepping.{ahead, stepped}
use Rattle.std.proofs.Common.{length-append}
use Rattle.grain_chain.specs.Going.{aside}
use Rattle.grain_chain.proofs.walks.Walk.go_on.Goals as goal

pub step_on-requires : goal.step_on-requires
step_on-requires c =
    let w = c.args.self.now in
    let x = c.args.context in
    let i = in_root w c.args.origin (read_write c.args.value) in
    let e : c.enter_root.new.self ≡ i = c.in_ok-enter_root.ensures.entered in
    subst (λ (u : Walk). u.step < count x.program.now u) (sym e) c.requires.at.0

pub advance-requires : goal.advance-requires
advance-requires c =
    let w = c.args.self.now in
    let x = c.args.context in
    let i = in_root w c.args.origin (read_write c.args.value) in
    let e : c.enter_root.new.self ≡ i = c.in_ok-enter_root.ensures.entered in
    let f : c.step_on.new.self ≡ stepped i = c.step_on.ensures ∙ ap stepped e in
    subst (λ (u : Walk). HasAllOperands x.program.now u) (sym f) c.requires.at.1

pub returns-in-Further-clause-goes : goal.returns-in-Further-clause-goes
returns-in-Further-clause-goes c =
    let w = c.args.self.now in
    let x = c.args.context in
    let i = in_root w c.args.origin (read_write c.args.value) in
    let e : c.enter_root.new.self ≡ i = c.in_ok-enter_root.ensures.entered in
    let f : c.step_on.new.self ≡ stepped i = c.step_on.ensures ∙ ap stepped e in
    subst (λ (o : Onward). Goes x w (Walks.rooted (setting x w) w.step (origin_of c.args.origin)
    (read_write c.args.value) (next_of x.engine.now x.program.now w o) (place_of w) (rest x w))
    c.advance.result c.advance.new.self) (sym c.in-Further.is)
    (then_goes x w i c.advance.new.self _ _ c.advance.result
    (enters x w c.args.origin (read_write c.args.value) (next_step x w))
    (from_same x i (stepped i) c.advance.new.self (next_step x w (place_of i) (rest x i))
    c.advance.result (λ k. refl)
    (subst (λ (u : Walk). Goes x u (ahead x u) c.advance.result c.advance.new.self) f
    c.advance.ensures.goes)))

pub returns-in-Further-clause-needs : goal.returns-in-Further-clause-needs
returns-in-Further-clause-needs c =
    let w = c.args.self.now in
    let x = c.args.context in
    let i = in_root w c.args.origin (read_write c.args.value) in
    let e : c.enter_root.new.self ≡ i = c.in_ok-enter_root.ensures.entered in
    let p = x.program.now in
    let f : c.step_on.new.self ≡ stepped i = c.step_on.ensures ∙ ap stepped e in
    needs_more p c.advance.new.self c.advance.result _ _
    (subst (λ (u : Walk). Needs p c.advance.new.self c.advance.result (steps_left p u + 3)) f
    c.advance.ensures.needs)
    (omega (arith, c.requires.at.0, length-append w.trail.outer (aside w c.args.origin ∷ [])))

pub returns-in-Operate-clause-goes : goal.returns-in-Operate-clause-goes
returns-in-Operate-clause-goes c =
    let w = c.args.self.now in
    let x = c.args.context in
    let i = in_root w c.args.origin (read_write c.args.value) in
    let e : c.enter_root.new.self ≡ i = c.in_ok-enter_root.ensures.entered in
    subst (λ (o : Onward). Goes x w (Walks.rooted (setting x w) w.step (origin_of c.args.origin)
    (read_write c.args.value) (next_of x.engine.now x.program.now w o) (place_of w) (rest x w))
    c.operate.result c.operate.new.self) (sym c.in-Operate.is)
    (then_goes x w i c.operate.new.self _ _ c.operate.result
    (enters x w c.args.origin (read_write c.args.value)
    (Walks.operating (setting x w) w.step c.in-Operate.pos c.in-Operate.op w.value))
    (subst (λ (u : Walk). Goes x u (Walks.operating (setting x u) u.step c.in-Operate.pos
    c.in-Operate.op u.value (place_of u) (rest x u)) c.operate.result c.operate.new.self) e
    c.operate.ensures.goes))

pub returns-in-Operate-clause-needs : goal.returns-in-Operate-clause-needs
returns-in-Operate-clause-needs c =
    let w = c.args.self.now in
    let x = c.args.context in
    let i = in_root w c.args.origin (read_write c.args.value) in
    let e : c.enter_root.new.self ≡ i = c.in_ok-enter_root.ensures.entered in
    let p = x.program.now in
    needs_more p c.operate.new.self c.operate.result _ _
    (subst (λ (u : Walk). Needs p c.operate.new.self c.operate.result (backs u + 2)) e
    c.operate.ensures.needs)
    (omega (arith, c.requires.at.0, length-append w.trail.outer (aside w c.args.origin ∷ [])))
