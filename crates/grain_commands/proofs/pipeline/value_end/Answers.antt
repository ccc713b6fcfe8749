use Rattle.grain_commands.proofs.pipeline.value_end.Goals as goal

pub returns-clause-text : goal.returns-clause-text
returns-clause-text c = rw c.into_global_state-operations.ensures at c.told_reply.ensures.text
