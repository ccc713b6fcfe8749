-- Each character is written after those before it, and what `chars` gives of a text are its
-- characters.
use Rattle.std.proofs.Common.{◌≡◌, ◌∙◌, [], sym, ap}
use Rattle.std.proofs.Output.{has_written_append, has_written_of_eq}
use Rattle.std.proofs.lemmas.Iterator.{YieldsList-from_chars}
use Rattle.std.proofs.lemmas.Iterator.Consumers.{YieldsList-end}
use Rattle.std.proofs.lemmas.List.{flat_map_more, map-id}
use Rattle.std.specs.List.{flat_map}
use Rattle.std.specs.Str.{chars}
use Rattle.grain_value.specs.Quoting.{escaped}
use Rattle.grain_value.proofs.PartWritten.{nothing_written}
use Rattle.grain_value.proofs.quoting.write_all_escaped.Goals as goal

pub loop-character-init : goal.loop-character-init
loop-character-init g c = λ plain. nothing_written _ _ plain

pub loop-character-preserved : goal.loop-character-preserved
loop-character-preserved g c = λ plain.
    let before = c.loop-character.invariant plain in
    let written = c.in_ok-write_escaped.ensures before.plain cc in
    has_written_of_eq _ _ _ _ _ (flat_map_more escaped [] c.loop-character.yielded
    c.in-Some.character) (has_written_append _ _ _ _ _ _ before written)

pub returns : goal.returns
returns g c = λ plain ok.
    let t = YieldsList-end
    (YieldsList-from_chars c.args.s.now c.utf8.s cc) c.loop-character.yielded _
    c.loop-character.yielded_by _ _ c.in-None.is c.next.ensures.steps in
    let all : c.loop-character.yielded ≡ chars c.args.s.now =
    sym (map-id c.loop-character.yielded) ∙ t.0 in
    has_written_of_eq _ _ _ _ _ (ap (flat_map escaped) all) (c.loop-character.invariant plain)
