use Rattle.grain_chain.proofs.walks.Walk.take_outcome.Goals as goal

pub returns-in-Ok-clause-goes : goal.returns-in-Ok-clause-goes
returns-in-Ok-clause-goes c = rw c.in-Ok.is c.take_value.ensures.goes

pub returns-in-Err-clause-goes : goal.returns-in-Err-clause-goes
returns-in-Err-clause-goes c = rw c.in-Err.is c.take_fault.ensures.goes
