use Rattle.std.proofs.Common.{◌+◌, Bool, sym, subst}
use Rattle.grain_means.specs.Tasks.{Task}
use Rattle.grain_means.specs.Walks
use Rattle.grain_chain.specs.Walking.{place_of}
use Rattle.grain_chain.specs.Going.{Takes, rest, setting, next_step}
use Rattle.grain_chain.specs.Walking.{operand_of}
use Rattle.grain_chain.specs.Going.{course, steps}
use Rattle.grain_program.specs.declared.code.chains.Step.{Step}
use Rattle.std.proofs.Common.{drop}
use Rattle.grain_chain.proofs.walks.Walk.take.Goals as goal

pub returns-in-Index-clause-takes : goal.returns-in-Index-clause-takes
returns-in-Index-clause-takes c =
    let w = c.args.self.now in
    let x = c.args.context in
    subst (λ (s : Step). Takes x w (Walks.at_mark w.step (rest x w) (Walks.taken (course x w) s w.step
    (Walks.role_before (course x w) (drop (w.step + 1) (steps x w))) (next_step x w) (place_of w)
    (rest x w))) c.index.result c.index.new.self) (sym c.in-Index.is)
    (subst (λ (o : Walks.Role). Takes x w (Walks.at_mark w.step (rest x w)
    (Walks.index_step (setting x w) w.step (operand_of w c.in-Index.operand) c.in-Index.pos
    c.in-Index.bracket o (next_step x w) (place_of w) (rest x w))) c.index.result c.index.new.self)
    c.role-role.ensures c.index.ensures.takes)

pub returns-in-Property-clause-takes : goal.returns-in-Property-clause-takes
returns-in-Property-clause-takes c =
    let w = c.args.self.now in
    let x = c.args.context in
    subst (λ (s : Step). Takes x w (Walks.at_mark w.step (rest x w) (Walks.taken (course x w) s w.step
    (Walks.role_before (course x w) (drop (w.step + 1) (steps x w))) (next_step x w) (place_of w)
    (rest x w))) c.property.result c.property.new.self) (sym c.in-Property.is)
    (subst (λ (o : Walks.Role). Takes x w (Walks.at_mark w.step (rest x w)
    (Walks.property_step (setting x w) w.step c.in-Property.name c.in-Property.getter
    c.in-Property.setter c.in-Property.pos o (next_step x w) (place_of w) (rest x w)))
    c.property.result c.property.new.self) c.role-role.ensures c.property.ensures.takes)

pub returns-in-Method-clause-takes : goal.returns-in-Method-clause-takes
returns-in-Method-clause-takes c =
    let w = c.args.self.now in
    let x = c.args.context in
    let stepping : Bool → Task = λ b. Walks.at_mark w.step (rest x w)
    (Walks.method_step (setting x w) w.step c.in-Method.pos
    (Walks.operands_from (course x w) c.in-Method.operand c.in-Method.argc) b (next_step x w)
    (place_of w) (rest x w) c.in-Method.name c.in-Method.argc) in
    subst (λ (s : Step). Takes x w (Walks.at_mark w.step (rest x w) (Walks.taken (course x w) s w.step
    (Walks.role_before (course x w) (drop (w.step + 1) (steps x w))) (next_step x w) (place_of w)
    (rest x w))) c.method.result c.method.new.self) (sym c.in-Method.is)
    (subst (λ (o : Walks.Role). Takes x w (stepping (Walks.reads o)) c.method.result
    c.method.new.self) c.role-role.ensures
    (subst (λ (b : Bool). Takes x w (stepping b) c.method.result c.method.new.self)
    (c.reads.ensures w.value) c.method.ensures.takes))
