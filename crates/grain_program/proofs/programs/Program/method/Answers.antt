-- What is found is there.
use Rattle.std.proofs.Common.{◌≡◌, Some, rules}
use Rattle.grain_program.specs.Lookups.{method_of}
use Rattle.grain_program.specs.laws.Lookups.{found_method}
use Rattle.grain_program.proofs.programs.Program.method.Goals as goal

pub returns-in-Some-clause-called : goal.returns-in-Some-clause-called
returns-in-Some-clause-called c =
    let found : Some c.in-Some.number ≡ method_of c.args.self.now c.args.name_index c.args.argc
    c.args.type_name.now = search rules in
    found_method c.args.self.now c.args.name_index c.args.argc c.args.type_name.now
    (Some c.in-Some.number) found
