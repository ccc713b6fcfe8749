use Rattle.std.proofs.Common.{refl, ap, ◌∙◌, subst}
use Rattle.std.specs.Prelude.{codes}
use Rattle.grain_value.specs.Writing.{type_name_of}
use Rattle.grain_value.specs.declared.values.Dynamic.{Dynamic}
use Rattle.grain_fault.specs.Problems.{Problem, Plain, MismatchDataType}
use Rattle.grain_means.specs.Walks
use Rattle.grain_chain.specs.Going.{Goes, rest}
use Rattle.grain_chain.specs.declared.walks.Walk.{Walk}
use Rattle.grain_chain.proofs.Named.{same_target}
use Rattle.grain_chain.proofs.Strides.{passes_goes}
use Rattle.grain_chain.proofs.walks.Walk.no_pointer_there.Goals as goal

pub returns-clause-goes : goal.returns-clause-goes
returns-clause-goes c = λ x v stands.
    let w = c.args.self.now in
    let w1 = c.pass_mark.new.self in
    passes_goes x w w1 c.raise.new.self
    (λ (u : Walk). Walks.failing u.step
    (Plain (MismatchDataType (codes "Fn") (type_name_of v)) c.args.pos) (rest x u))
    c.raise.result refl c.in_ok-pass_mark.ensures.passed
    (subst (λ (p : Problem). Goes x w1 (Walks.failing w1.step p (rest x w1)) c.raise.result
    c.raise.new.self)
    (c.in_ok-fault.ensures
    ∙ ap (λ (d : Dynamic). Plain (MismatchDataType (codes "Fn") (type_name_of d)) c.args.pos)
    (same_target w.trail c.target.result.now v c.target.ensures stands)) (c.raise.ensures.goes x))
