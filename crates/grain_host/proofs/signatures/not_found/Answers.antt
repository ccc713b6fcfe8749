use Rattle.std.proofs.Common.{◌≡◌, false, map, refl, rules}
use Rattle.std.specs.Prelude.{codes, eqb, bytes_eq}
use Rattle.std.specs.List.{starts_with}
use Rattle.grain_value.specs.View.{value_of}
use Rattle.grain_host.specs.Signatures.{signature_text}
use Rattle.grain_host.proofs.signatures.not_found.Goals as goal

pub returns : goal.returns
returns c =
    let no_get : starts_with eqb c.args.name.now (codes "get$") ≡ false = search rules in
    let no_set : starts_with eqb c.args.name.now (codes "set$") ≡ false = search rules in
    let no_index : bytes_eq c.args.name.now (codes "index$get$") ≡ false = search rules in
    let no_write : bytes_eq c.args.name.now (codes "index$set$") ≡ false = search rules in
    let text : c.in_ok-text-5.text ≡ signature_text c.args.name.now
    (map value_of c.args.values.now) = search rules in
    rw (no_get, no_set, no_index, no_write, text) refl
