use Rattle.std.proofs.Common.{Bool, sym, ap, ◌∙◌}
use Rattle.grain_value.specs.declared.values.Dynamic.TheVariants as dynamic
use Rattle.grain_chain.specs.Walking.{role_in}
use Rattle.grain_chain.specs.Going.{in_root}
use Rattle.grain_chain.proofs.Strides.{stops_takes}
use Rattle.grain_chain.proofs.Roots.{stops_need}
use Rattle.grain_chain.proofs.Missing.{missing_adds, missing_fails, missing_roots}
use Rattle.grain_chain.proofs.walks.Walk.missing_key.Goals as goal

pub returns-then-assigns-clause-takes : goal.returns-then-assigns-clause-takes
returns-then-assigns-clause-takes c = λ v stands.
    missing_adds c.args.context c.args.self.now c.add_key.new.self c.args.pos c.args.origin
    (role_in c.args.role c.args.self.now.value) c.args.key v
    (sym (c.assigns.ensures c.args.self.now.value) ∙ c.if-assigns.true)
    (c.in_ok-add_key.ensures.added v stands)

pub returns-then-context-clause-takes : goal.returns-then-context-clause-takes
returns-then-context-clause-takes c = λ v stands.
    missing_fails c.args.context c.args.self.now c.raise.new.self c.args.pos c.args.origin
    (role_in c.args.role c.args.self.now.value) c.args.key v c.stopping.result
    (sym (c.assigns.ensures c.args.self.now.value) ∙ c.if-assigns.false) c.if-context.true
    (stops_takes c.args.context c.args.self.now c.raise.new.self _ c.raise.result c.stopping.result
    c.stopping.ensures (c.raise.ensures.goes c.args.context))

pub returns-then-context-clause-needs : goal.returns-then-context-clause-needs
returns-then-context-clause-needs c = λ n.
    stops_need c.args.context.program.now c.raise.new.self c.raise.result c.stopping.result n
    c.stopping.ensures (c.raise.ensures.needs c.args.context.program.now n)

pub returns-clause-takes : goal.returns-clause-takes
returns-clause-takes c = λ v stands.
    missing_roots c.args.context c.args.self.now c.enter_root.new.self c.args.pos c.args.origin
    (role_in c.args.role c.args.self.now.value) c.args.key v
    (sym (c.assigns.ensures c.args.self.now.value) ∙ c.if-assigns.false) c.if-context.false
    (c.in_ok-enter_root.ensures.entered
    ∙ ap (λ (b : Bool). in_root c.args.self.now c.args.origin
    (record { value = dynamic.Unit; read_only = b }))
    c.is_read_only-read_only.ensures)
