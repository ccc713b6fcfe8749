-- The words are no command, or they are `self` and a number.
use Rattle.std.proofs.Common.{◌≡◌, None, Some, map, string_bytes, rules}
use Rattle.grain_commands.specs.SelfListings.{self_number}
use Rattle.grain_commands.proofs.Commanding.{self_answered, unknown_answered}
use Rattle.grain_commands.proofs.commands.answer_unread.Goals as goal

pub returns-in-None : goal.returns-in-None
returns-in-None g c = λ input.
    let none : self_number (map string_bytes c.args.words.now) ≡ None = search rules in
    unknown_answered (map string_bytes c.args.words.now) input c.usage.result c.requires.unread none
    c.usage.ensures.status c.usage.ensures.text

pub returns-in-Some : goal.returns-in-Some
returns-in-Some g c = λ input.
    let some : self_number (map string_bytes c.args.words.now) ≡ Some c.in-Some.count = search rules in
    self_answered (map string_bytes c.args.words.now) input c.in-Some.count c.run_self.result
    c.requires.unread some c.run_self.ensures
