use Rattle.std.proofs.Common.{◌≡◌, ◌∙◌, [], List, is_none, drop, refl, sym, ap, arith}
use Rattle.std.proofs.lemmas.Str.{IsUtf8-drop}
use Rattle.std.specs.Str.{IsUtf8}
use Rattle.grain_value.specs.Tree.{Tree}
use Rattle.grain_stack.specs.Cursors.{characters_in}
use Rattle.grain_stack.specs.Entries.{first_of}
use Rattle.grain_stack.proofs.Items.{not_so, none_begins, no_characters, character_at}
use Rattle.grain_stack.proofs.cursors.begins_none.Goals as goal

pub returns-in_default : goal.returns-in_default
returns-in_default c =
    let none : characters_in (drop c.args.at c.args.items.now) ≡ [] =
    rw (← c.as_str.ensures)
    (none_begins c.as_str.result.now c.args.at (not_so c.in_default.ensures.variant.1)) in
    rw none refl

pub returns-in-Some-next : goal.returns-in-Some-next
returns-in-Some-next c =
    let text = c.as_str.result.now in
    let utf8 : IsUtf8 (drop c.args.at text) =
    IsUtf8-drop text c.args.at c.as_str.utf8 (c.in-Some.ensures.variant.0 refl) in
    rw (← c.as_str.ensures)
    (ap (λ (ts : List Tree). is_none (first_of ts))
    (sym (character_at text c.next.new.self.rest.now c.args.at _ c.in-Some-next.field-0 utf8
    (sym c.in-Some.ensures.back ∙ sym c.chars.ensures.rest ∙ c.in-Some-next.ensures.steps.0) refl)))

pub returns-in-None : goal.returns-in-None
returns-in-None c =
    let rest : drop c.args.at c.args.items.now ≡ c.chars.result.rest.now =
    rw (← c.as_str.ensures) (sym c.in-Some.ensures.back ∙ sym c.chars.ensures.rest) in
    let none : characters_in (drop c.args.at c.args.items.now) ≡ [] =
    rw rest
    (no_characters c.chars.result.rest.now (omega (arith, c.in-None.ensures.steps.0.0))) in
    rw none refl
