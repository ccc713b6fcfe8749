-- What `chars` gives of a text are its characters.
use Rattle.std.proofs.Common.{◌≡◌, ◌∙◌, sym, ap, ℕ, Option, Some, None, option_map, refl}
use Rattle.std.proofs.lemmas.Iterator.{YieldsList-from_chars}
use Rattle.std.proofs.lemmas.Iterator.Consumers.{nth_from_yields_List}
use Rattle.std.specs.List.{slice_get}
use Rattle.std.specs.Str.{chars}
use Rattle.grain_value.proofs.texts.Text.character.Goals as goal

same : (o : Option ℕ) → option_map (λ x. x) o ≡ o
same None = refl
same (Some x) = refl

pub returns : goal.returns
returns c =
    sym (same c.nth.result)
    ∙ nth_from_yields_List c.nth.result c.nth.new.self c.args.place c.nth.ensures.ran
    (YieldsList-from_chars c.as_str.result.now c.as_str.utf8 c.chars.ensures.rest)
    ∙ ap (λ t. slice_get (chars t) c.args.place) c.as_str.ensures
