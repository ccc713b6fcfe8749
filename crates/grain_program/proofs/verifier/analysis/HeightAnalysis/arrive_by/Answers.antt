-- What one shape has come to stays so.
use Rattle.std.proofs.Common.{◌<◌, length, sym, rules, ◌∙◌, subst, ℕ}
use Rattle.grain_program.specs.View.{view_of}
use Rattle.grain_program.specs.Numbered.{shape_of, state_of}
use Rattle.grain_program.proofs.Searched.{places}
use Rattle.grain_program.proofs.Reaching.{one_keeps, one_kept}
use Rattle.grain_program.proofs.verifier.analysis.HeightAnalysis.arrive_by.Goals as goal

pub returns-in-Next-clause-reached : goal.returns-in-Next-clause-reached
returns-in-Next-clause-reached c =
    let lt : c.args.next < length c.args.self.now.shapes = search rules in
    one_kept (view_of c.args.parts.now) c.args.reached.now
    (shape_of c.args.self.now.lists c.args.shape) (state_of c.args.self.now)
    (state_of c.arrive.new.self) c.args.next (sym (places c.args.self.now)) lt c.arrive.result
    c.arrive.ensures.exact c.requires.reached

pub returns-in-Jump-clause-reached : goal.returns-in-Jump-clause-reached
returns-in-Jump-clause-reached c =
    let lt : c.in-Jump.target < length c.args.self.now.shapes = search rules in
    one_kept (view_of c.args.parts.now) c.args.reached.now
    (shape_of c.args.self.now.lists c.at_target-other.result) (state_of c.args.self.now)
    (state_of c.arrive-in-Jump.new.self) c.in-Jump.target (sym (places c.args.self.now)) lt
    c.arrive-in-Jump.result c.arrive-in-Jump.ensures.exact c.requires.reached

pub returns-in_ok-arrive-in-Branch-clause-reached :
    goal.returns-in_ok-arrive-in-Branch-clause-reached
returns-in_ok-arrive-in-Branch-clause-reached c =
    let before = c.args.self.now in
    let between = c.arrive-then-target-next.new.self in
    let target_in : c.in-Branch.target < length before.shapes = search rules in
    let next_in : c.args.next < length before.shapes = search rules in
    let once =
    one_keeps (view_of c.args.parts.now) c.args.reached.now
    (shape_of before.lists c.at_target-other.result) (state_of before) (state_of between)
    c.in-Branch.target (subst (λ (n : ℕ). c.in-Branch.target < n) (sym (places before)) target_in)
    c.in_ok-arrive-in-Branch.ensures.exact c.requires.reached in
    one_kept (view_of c.args.parts.now) c.args.reached.now
    (shape_of between.lists c.args.shape) (state_of between)
    (state_of c.arrive-then-target-next-2.new.self) c.args.next
    (sym c.in_ok-arrive-in-Branch.ensures.length_same ∙ sym (places between)) next_in
    c.arrive-then-target-next-2.result c.arrive-then-target-next-2.ensures.exact once

pub returns-in_ok-arrive-in-Branch-2-clause-reached :
    goal.returns-in_ok-arrive-in-Branch-2-clause-reached
returns-in_ok-arrive-in-Branch-2-clause-reached c =
    let before = c.args.self.now in
    let between = c.arrive-else-target-next.new.self in
    let target_in : c.in-Branch.target < length before.shapes = search rules in
    let next_in : c.args.next < length before.shapes = search rules in
    let once =
    one_keeps (view_of c.args.parts.now) c.args.reached.now
    (shape_of before.lists c.args.shape) (state_of before) (state_of between)
    c.args.next (subst (λ (n : ℕ). c.args.next < n) (sym (places before)) next_in)
    c.in_ok-arrive-in-Branch-2.ensures.exact c.requires.reached in
    one_kept (view_of c.args.parts.now) c.args.reached.now
    (shape_of between.lists c.at_target-other.result) (state_of between)
    (state_of c.arrive-else-target-next-2.new.self) c.in-Branch.target
    (sym c.in_ok-arrive-in-Branch-2.ensures.length_same ∙ sym (places between)) target_in
    c.arrive-else-target-next-2.result c.arrive-else-target-next-2.ensures.exact once
