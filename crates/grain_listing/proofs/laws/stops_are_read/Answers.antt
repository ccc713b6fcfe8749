use Rattle.grain_listing.proofs.StopsRead.{Numbers, stop_read}
use Rattle.grain_listing.proofs.StopsListed.{stop_listed}
use Rattle.grain_listing.proofs.laws.stops_are_read.Goals as goal

pub returns : goal.returns
returns c =
    let numbers : Numbers = record {
      read = c.decimals_are_read.ensures.numbers;
      plain = c.decimals_are_read.ensures.plain;
      next = c.plain_texts_are_read.ensures.next;
    } in
    record {
      read = stop_read c.values_are_read.ensures.constants numbers;
      listed = stop_listed c.read_values_can_be_listed.ensures.constants;
    }
