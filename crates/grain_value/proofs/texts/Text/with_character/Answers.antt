-- What `chars` gives of a text are its characters.
use Rattle.std.proofs.Common.{◌≡◌, ◌∙◌, ap, subst, ℕ, Result, Ok, IfOk, List}
use Rattle.std.proofs.lemmas.Iterator.{YieldsList-from_chars, items_from_collect}
use Rattle.std.specs.Prelude.{slice_set}
use Rattle.std.specs.Str.{chars, encode_utf8_all}
use Rattle.std.specs.Vec.{vec_items}
use Rattle.grain_value.proofs.texts.Text.with_character.Goals as goal

of_ok : {W E : Type 0} (P : W → Type 0) {r : Result W E} {w : W} → r ≡ Ok w → IfOk r P → P w
of_ok {W} {E} P e h = subst (λ (q : Result W E). IfOk q P) e h

pub returns : goal.returns
returns c =
    let all = items_from_collect c.collect.result c.collect.ensures.ran
    (YieldsList-from_chars c.as_str.result.now c.as_str.utf8 c.chars.ensures.rest) in
    let read = of_ok (λ w. vec_items w ≡ chars c.as_str.result.now) c.in_ok-characters.was all in
    let same = c.deref.ensures.value ∙ c.replace.ensures
    ∙ ap (λ xs. slice_set xs c.args.place c.args.other) (read ∙ ap (λ t. chars t) c.as_str.ensures) in
    subst (λ (xs : List ℕ). IfOk c.text_of.result (λ text. text ≡ encode_utf8_all xs)) same
    c.text_of.ensures
