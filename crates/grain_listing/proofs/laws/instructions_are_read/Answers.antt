use Rattle.grain_listing.proofs.InstructionsRead.{Laws, instructions_read}
use Rattle.grain_listing.proofs.laws.instructions_are_read.Goals as goal

pub returns : goal.returns
returns c =
    let laws : Laws = record {
      numbers = c.decimals_are_read.ensures.numbers;
      plain = c.decimals_are_read.ensures.plain;
      letterless = c.decimals_are_read.ensures.letterless;
      first = c.plain_texts_are_read.ensures.first;
      next = c.plain_texts_are_read.ensures.next;
      over = c.plain_texts_are_read.ensures.over;
      inside = c.plain_texts_are_read.ensures.inside;
      lines = c.plain_texts_are_read.ensures.lines;
    } in
    instructions_read laws
