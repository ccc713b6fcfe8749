-- The fault says whether the host's operator is asked.
use Rattle.std.proofs.Common.{◌≡◌, ◌∙◌, [], Ok, refl, sym, true, false}
use Rattle.grain_program.specs.View.{name_of}
use Rattle.grain_fault.specs.Problems.{problem_of}
use Rattle.grain_host.specs.Signatures.{says_missing}
use Rattle.grain_frame.specs.Abstraction.{Raises}
use Rattle.grain_frame.specs.lemmas.Bound.{as_bound}
use Rattle.grain_frame.specs.lemmas.Failing.{raises_here}
use Rattle.grain_frame.specs.lemmas.Performing.{led}
use Rattle.grain_frame.proofs.Asking.{passed_over}
use Rattle.grain_frame.proofs.Holding.{free_beside, goes_beside}
use Rattle.grain_frame.proofs.runs.Run.op_assign_failed.Goals as goal

pub operator_assigned-requires : goal.operator_assigned-requires
operator_assigned-requires g c = record {
  can = goes_beside c.args.context.program.now c.args.frame.now c.args.self.now c.args.assignment
      c.cut_trace.new.self [] c.cut_trace.ensures c.requires.can;
  back = free_beside c.args.self.now c.cut_trace.new.self c.args.assignment.target c.requires.back;
}

pub returns-then-says_missing : goal.returns-then-says_missing
returns-then-says_missing g c =
    let p = c.args.context.program.now in
    let a = c.args.assignment.operator in
    let missing : says_missing (name_of p a.op_assign_name) (problem_of c.args.fault) ≡ true =
    rw c.name-name.ensures at (sym c.says_missing.ensures ∙ c.if-says_missing.true) in
    record {
      implements = λ h plain.
          passed_over g.H.Host.law p c.args.context.engine.now c.args.frame.now c.args.self.now
          c.args.steps.now c.args.host.now c.args.assignment h (problem_of c.args.fault)
          c.cut_trace.new.self c.mark.new.self c.operator_assigned.new.frame
          c.operator_assigned.new.self c.operator_assigned.new.steps c.operator_assigned.new.host
          c.cut_trace.ensures c.mark.ensures plain c.requires.can missing
          (c.operator_assigned.ensures.implements h plain);
      less = c.operator_assigned.ensures.less;
    }

pub returns-else-says_missing : goal.returns-else-says_missing
returns-else-says_missing g c =
    let p = c.args.context.program.now in
    let engine = c.args.context.engine.now in
    let s = c.args.self.now in
    let f = c.args.frame.now in
    let a = c.args.assignment.operator in
    let x = problem_of c.args.fault in
    let there : says_missing (name_of p a.op_assign_name) x ≡ false =
    rw c.name-name.ensures at (sym c.says_missing.ensures ∙ c.if-says_missing.false) in
    let raises : Raises s c.args.steps.now x (Ok c.raise.result) c.raise.new.self
    c.raise.new.steps = (
      c.raise.ensures.progress,
      rw c.raise.ensures.after refl,
      rw c.raise.ensures.after refl,
      c.raise.ensures.marked,
    ) in
    record {
      implements = λ h plain. led (Ok c.raise.result) (as_bound
          (raises_here g.H.Host.law p engine f s c.raise.new.self
          c.args.steps.now c.raise.new.steps c.args.host.now x (Ok c.raise.result) raises
          c.requires.can.inside (λ stop u place. rw there refl)));
      less = tt;
    }
