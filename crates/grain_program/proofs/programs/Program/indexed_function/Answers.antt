-- What is found is there.
use Rattle.std.proofs.Common.{◌≡◌, rules}
use Rattle.grain_program.specs.Lookups.{function_of}
use Rattle.grain_program.specs.laws.Lookups.{found_called}
use Rattle.grain_program.proofs.programs.Program.indexed_function.Goals as goal

pub returns-clause-called : goal.returns-clause-called
returns-clause-called c =
    let found : c.copied.result ≡ function_of c.args.self.now c.args.name_index c.args.argc =
    search rules in
    found_called c.args.self.now c.args.name_index c.args.argc c.copied.result found
