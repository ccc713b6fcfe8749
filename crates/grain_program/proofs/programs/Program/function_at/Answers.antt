-- A frame of a function can be entered.
use Rattle.std.proofs.Common.{◌≡◌, Some, rules, subst}
use Rattle.std.specs.Prelude.{slice_get}
use Rattle.grain_program.specs.Typing.{IsProgram}
use Rattle.grain_program.specs.laws.TypedAt.{enters}
use Rattle.grain_program.proofs.programs.Program.function_at.Goals as goal

pub returns-clause-named : goal.returns-clause-named
returns-clause-named c =
    let found : slice_get c.args.self.now.functions c.args.number ≡ Some c.at-function.result.now =
    search rules in
    let valid : IsProgram c.args.self.now = subst IsProgram c.self.view_is c.self.invariant.0 in
    valid.splits.named c.args.number c.at-function.result.now found

pub returns-clause-enters : goal.returns-clause-enters
returns-clause-enters c =
    let found : slice_get c.args.self.now.functions c.args.number ≡ Some c.at-function.result.now =
    search rules in
    enters c.args.self.now (subst IsProgram c.self.view_is c.self.invariant.0) c.args.number
    c.at-function.result.now found
