use Rattle.grain_program.specs.Layout.{chunks_in}
use Rattle.grain_program.proofs.Verdicts.{one_refused}
use Rattle.grain_program.proofs.verifier.check.one_refusal.Goals as goal

pub returns : goal.returns
returns c = λ p. one_refused p (chunks_in p)
