-- What is found is there.
use Rattle.std.proofs.Common.{◌≡◌, rules}
use Rattle.grain_program.specs.Lookups.{function_by_text}
use Rattle.grain_program.specs.laws.Lookups.{found_by_text}
use Rattle.grain_program.proofs.programs.Program.function_named.Goals as goal

pub returns-clause-called : goal.returns-clause-called
returns-clause-called c =
    let found : c.first_by_text.result ≡ function_by_text c.args.self.now c.args.name.now
    c.args.argc = search rules in
    found_by_text c.args.self.now c.args.name.now c.args.argc c.first_by_text.result found
