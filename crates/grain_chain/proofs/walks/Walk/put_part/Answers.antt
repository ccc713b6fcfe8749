use Rattle.std.proofs.Common.{Bool, subst}
use Rattle.grain_chain.proofs.Backs.{part_done, part_fails}
use Rattle.grain_value.specs.Parts.{with_part}
use Rattle.grain_chain.specs.Going.{WrotePart}
use Rattle.grain_chain.proofs.walks.Walk.put_part.Goals as goal

pub returns-then-is_put-clause-goes : goal.returns-then-is_put-clause-goes
returns-then-is_put-clause-goes c = λ x changed.
    let h = c.in-Ok.ensures.wrote in
    part_done x c.args.self.now c.args.spot c.args.part changed c.pass_mark.new.self c.write_part.new.self
    h.0 c.in_ok-pass_mark.ensures.passed h.1.0
    (subst (λ (b : Bool). WrotePart c.pass_mark.new.self (with_part h.0 c.args.spot c.args.part) b
    c.write_part.new.self) c.if-is_put.true h.1.1)

pub returns-clause-goes : goal.returns-clause-goes
returns-clause-goes c = λ x changed.
    let h = c.in-Ok.ensures.wrote in
    part_fails x c.args.self.now c.args.spot c.args.part changed c.pass_mark.new.self c.write_part.new.self
    c.refuse_part.new.self h.0 c.refuse_part.result c.in_ok-pass_mark.ensures.passed h.1.0
    (subst (λ (b : Bool). WrotePart c.pass_mark.new.self (with_part h.0 c.args.spot c.args.part) b
    c.write_part.new.self) c.if-is_put.false h.1.1)
    (c.refuse_part.ensures.goes x changed)
