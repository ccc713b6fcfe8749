use Rattle.grain_words.proofs.PlainTexts.{first_word, another_word, not_over, inside_words, plain_lines}
use Rattle.grain_words.proofs.laws.plain_texts_are_read.Goals as goal

pub returns-clause-first : goal.returns-clause-first
returns-clause-first c = first_word

pub returns-clause-next : goal.returns-clause-next
returns-clause-next c = another_word

pub returns-clause-over : goal.returns-clause-over
returns-clause-over c = not_over

pub returns-clause-inside : goal.returns-clause-inside
returns-clause-inside c = inside_words

pub returns-clause-lines : goal.returns-clause-lines
returns-clause-lines c = plain_lines
