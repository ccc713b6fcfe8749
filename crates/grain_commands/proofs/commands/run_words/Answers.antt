use Rattle.grain_commands.proofs.commands.run_words.Goals as goal

pub returns-clause-ended : goal.returns-clause-ended
returns-clause-ended g c = rw c.as_slice.ensures.value at c.answer_and_write.ensures.ended

pub returns-clause-beside : goal.returns-clause-beside
returns-clause-beside g c = c.statuses_are_due.ensures.beside _ _ _ _ _ _
    (rw c.as_slice.ensures.value at c.answer_and_write.ensures.ended)

pub returns-clause-complete : goal.returns-clause-complete
returns-clause-complete g c = c.statuses_are_due.ensures.complete _ _ _ _ _ _
    (rw c.as_slice.ensures.value at c.answer_and_write.ensures.ended)

pub returns-clause-headline : goal.returns-clause-headline
returns-clause-headline g c = c.statuses_are_due.ensures.headline _ _ _ _ _ _
    (rw c.as_slice.ensures.value at c.answer_and_write.ensures.ended)

pub returns-clause-handed : goal.returns-clause-handed
returns-clause-handed g c = rw c.as_slice.ensures.value at c.answer_and_write.ensures.handed
