use Rattle.grain_literals.proofs.ValuesSpelled.{Laws}
use Rattle.grain_literals.proofs.LiteralsRead.{Texts, literal_read, constant_read, entry_read, read_only_read}
use Rattle.grain_literals.proofs.laws.values_are_read.Goals as goal

pub returns : goal.returns
returns c =
    let laws : Laws = record {
      integer_read = c.decimals_are_read.ensures.here;
      number_read = c.numbers_are_read.ensures.here;
      number_begun = c.numbers_are_read.ensures.first;
      integer_begun = c.numbers_are_read.ensures.begun;
      integer_spelled = c.numbers_are_read.ensures.integers;
      number_spelled = c.numbers_are_read.ensures.numbers;
      character_read = c.characters_are_read.ensures.read;
      character_spelled = c.characters_are_read.ensures.written;
      bytes_read = c.bytes_are_read.ensures.read;
      bytes_spelled = c.bytes_are_read.ensures.written;
      text_read = c.quoted_texts_are_read.ensures.inside;
      text_spelled = c.quoted_texts_are_read.ensures.spelled;
    } in
    let texts : Texts = record {
      read = c.quoted_texts_are_read.ensures.written;
      characters = λ s valid. (c.quoted_texts_are_read.ensures.spelled s valid).1;
    } in
    record {
      read = literal_read laws;
      constants = constant_read laws;
      entries = entry_read laws texts;
      read_only = read_only_read laws texts;
    }
