-- The entry has its value back.
use Rattle.std.proofs.Common.{◌≡◌, ◌∙◌, refl, rules}
use Rattle.grain_value.specs.Operands.{read_write}
use Rattle.grain_value.specs.Scopes.{set_held}
use Rattle.grain_value.specs.declared.values.Dynamic.TheVariants as dynamic
use Rattle.grain_frame.specs.lemmas.Entries.{entry_twice, same_entry}
use Rattle.grain_frame.proofs.runs.Run.make_cell.Goals as goal

pub returns-in-Err-clause-made : goal.returns-in-Err-clause-made
returns-in-Err-clause-made g c = λ h is.
    let s = c.args.self.now in
    let i = c.args.index in
    let back : c.in-Err.held ≡ h = search rules in
    let written : c.set.new.self ≡ set_held (set_held s.scope i (read_write dynamic.Unit)) i h =
    search rules in
    let scope : c.set.new.self ≡ s.scope =
    written ∙ (entry_twice s.scope i (read_write dynamic.Unit) h ∙ same_entry s.scope i h is) in
    rw (scope, c.in-Err.ensures.cells) refl
