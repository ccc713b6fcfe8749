-- What the table says is right, and what is found is there.
use Rattle.std.proofs.Common.{◌≡◌, List, Option, Some, None, get_or, sym, ap, ◌∙◌}
use Rattle.grain_program.specs.declared.lookups.First.{First}
use Rattle.grain_program.specs.View.{View, view_of}
use Rattle.grain_program.specs.Lookups.{function_of}
use Rattle.grain_program.specs.laws.Lookups.{called}
use Rattle.grain_program.proofs.FirstFunctions.{first_right}
use Rattle.grain_program.proofs.programs.Program.function.Goals as goal
use Rattle.grain_program.proofs.programs.Program.function.Goals.{Then-first-argc}

is_first : (c : Then-first-argc) → function_of c.args.self.now c.args.name_index c.args.argc ≡ Some
    c.in-Some.first.number
is_first c =
    let name = c.args.name_index in
    let at : get_or c.self.inside.firsts.items name None ≡ Some c.in-Some.first =
    ap (λ (xs : List (Option First)). get_or xs name None) (sym c.deref.ensures.value)
    ∙ sym c.first_of.ensures
    ∙ c.in-Some.is in
    ap (λ (v : View). function_of v name c.args.argc) (sym c.self.view_is)
    ∙ ap (function_of (view_of c.self.inside.parts) name) (sym c.if-first-argc.true)
    ∙ first_right c.self.inside.parts.functions c.self.inside.firsts.items c.self.invariant.3 name
    c.in-Some.first at

pub returns-in-Some-clause-exact : goal.returns-in-Some-clause-exact
returns-in-Some-clause-exact c = sym (is_first c)

pub returns-in-Some-clause-called : goal.returns-in-Some-clause-called
returns-in-Some-clause-called c =
    called c.args.self.now c.args.name_index c.args.argc c.in-Some.first.number (is_first c)
