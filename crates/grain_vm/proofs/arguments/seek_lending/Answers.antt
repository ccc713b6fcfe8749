-- There is no native of the name for what is lent and the arguments.
use Rattle.std.proofs.Common.{◌≡◌, None, map, rules}
use Rattle.grain_value.specs.View.{value_of}
use Rattle.grain_fault.specs.Problems.{problem_of}
use Rattle.grain_host.specs.Law.{native_of}
use Rattle.grain_host.specs.Signatures.{not_found}
use Rattle.grain_vm.proofs.Reading.{seeks_absent}
use Rattle.grain_vm.proofs.arguments.seek_lending.Goals as goal

pub returns-in-None : goal.returns-in-None
returns-in-None g c = λ args home describes.
    let none : native_of g.H.Host.law c.args.host.now c.as_str.result.now c.args.arguments.kinds
    ≡ None = search rules in
    let same : c.as_str.result.now ≡ c.args.name.now = search rules in
    let is : problem_of c.in_ok-not_found-in-None.field-0
    ≡ not_found c.args.name.now (map value_of c.in_ok-all-in-None.all) c.args.position = search rules in
    seeks_absent g.H.Host.law c.args.host.now c.args.name.now c.as_str.result.now c.args.lent.now args
    home c.args.arguments.kinds c.in_ok-all-in-None.all c.args.position
    c.in_ok-not_found-in-None.field-0 describes.kinds none same is
    (c.in_ok-all-in-None.ensures args describes.values)
