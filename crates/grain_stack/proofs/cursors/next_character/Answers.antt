use Rattle.std.proofs.Common.{◌≡◌, ◌∙◌, ◌+◌, [], drop, refl, sym, arith}
use Rattle.std.proofs.lemmas.Str.{IsUtf8-drop}
use Rattle.std.specs.Str.{IsUtf8}
use Rattle.grain_stack.specs.Cursors.{characters_in}
use Rattle.grain_stack.proofs.Items.{not_so, none_begins, no_characters, character_at}
use Rattle.grain_stack.proofs.cursors.next_character.Goals as goal

pub returns-in_default : goal.returns-in_default
returns-in_default c =
    let none : characters_in (drop c.args.next.now c.args.items.now) ≡ [] =
    rw (← c.as_str.ensures)
    (none_begins c.as_str.result.now c.args.next.now (not_so c.in_default.ensures.variant.1)) in
    (none, none)

pub returns-in_err-character : goal.returns-in_err-character
returns-in_err-character c =
    let rest : drop c.args.next.now c.args.items.now ≡ c.chars.result.rest.now =
    rw (← c.as_str.ensures) (sym c.in-Some.ensures.back ∙ sym c.chars.ensures.rest) in
    let none : characters_in (drop c.args.next.now c.args.items.now) ≡ [] =
    rw rest
    (no_characters c.chars.result.rest.now (omega (arith, c.in_err-character.ensures.steps.0.0))) in
    rw c.from_residual.ensures (none, none)

pub returns : goal.returns
returns c =
    let text = c.as_str.result.now in
    let utf8 : IsUtf8 (drop c.args.next.now text) =
    IsUtf8-drop text c.args.next.now c.as_str.utf8 (c.in-Some.ensures.variant.0 refl) in
    rw (← c.as_str.ensures)
    (character_at text c.next.new.self.rest.now c.args.next.now
    (c.args.next.now + c.len_utf8.result) c.in_ok-character.character utf8
    (sym c.in-Some.ensures.back ∙ sym c.chars.ensures.rest ∙ c.in_ok-character.ensures.steps.0)
    (omega (arith, c.len_utf8.ensures.value)))
