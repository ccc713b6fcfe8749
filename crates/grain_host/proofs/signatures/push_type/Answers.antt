use Rattle.std.proofs.Common.{◌≡◌, Some, None, map, rules, sym}
use Rattle.std.specs.Prelude.{slice_get}
use Rattle.grain_value.specs.View.{tree, value_of}
use Rattle.grain_value.specs.Writing.{type_name_of}
use Rattle.grain_host.specs.Signatures.{type_at}
use Rattle.grain_host.proofs.Signing.{type_there, type_nowhere}
use Rattle.grain_host.proofs.signatures.push_type.Goals as goal

pub returns-in_ok-own_type_name-in-Some : goal.returns-in_ok-own_type_name-in-Some
returns-in_ok-own_type_name-in-Some c =
    let there : slice_get c.args.values.now c.args.index ≡ Some (tree c.in-Some.value.now) =
    sym (rw c.in-Some.is at c.get.ensures) in
    let is : type_at c.args.index (map value_of c.args.values.now) ≡
    type_name_of c.in-Some.value.now =
    type_there c.args.values.now c.args.index c.in-Some.value.now there in
    rw is (search rules)

pub returns-in-None : goal.returns-in-None
returns-in-None c =
    let none : slice_get c.args.values.now c.args.index ≡ None =
    sym (rw c.in-None.is at c.get.ensures) in
    rw (type_nowhere c.args.values.now c.args.index none) (search rules)
