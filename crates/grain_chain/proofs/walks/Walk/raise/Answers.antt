use Rattle.std.proofs.Common.{Ok, refl}
use Rattle.grain_fault.specs.Problems.{problem_of}
use Rattle.grain_means.specs.Tasks.{WalkFailed}
use Rattle.grain_chain.specs.Going.{rest}
use Rattle.grain_chain.specs.declared.walks.Walk.{Walk}
use Rattle.grain_chain.proofs.Strides.{passes_goes, fails}
use Rattle.grain_chain.proofs.walks.Walk.raise.Goals as goal

pub returns-clause-goes : goal.returns-clause-goes
returns-clause-goes c = λ x.
    passes_goes x c.args.self.now c.pass_mark.new.self c.failed.new.self
    (λ (u : Walk). rest x u (WalkFailed u.step (problem_of c.args.fault))) (Ok c.failed.result) refl
    c.in_ok-pass_mark.ensures.passed
    (fails x c.pass_mark.new.self c.failed.new.self c.args.fault c.failed.result c.failed.ensures.answer
    c.failed.ensures.left)
