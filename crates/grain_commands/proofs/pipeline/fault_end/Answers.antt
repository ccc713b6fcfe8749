use Rattle.grain_commands.proofs.pipeline.fault_end.Goals as goal

pub returns-clause-text : goal.returns-clause-text
returns-clause-text c = rw c.fault_trace.ensures at c.fault_reply.ensures.text
