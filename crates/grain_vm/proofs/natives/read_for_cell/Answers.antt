-- What a cell holds was described, and then the arguments.
use Rattle.std.proofs.Common.{rules, ◌≡◌, ◌∙◌, ◌++◌, ◌∷◌, [], ℕ, List, Some, ap, refl}
use Rattle.std.specs.Prelude.{slice_get}
use Rattle.grain_value.specs.Cells.{content}
use Rattle.grain_value.specs.Writing.{kind_of}
use Rattle.grain_vm.proofs.ForCells.{reads_for_cell}
use Rattle.grain_vm.proofs.natives.read_for_cell.Goals as goal

pub returns : goal.returns
returns c =
    let v = c.in-Some.content.now in
    let held : content (slice_get c.args.cells.now c.args.cell) ≡ Some v = search rules in
    let kinds : c.push.new.self ≡ c.new-arguments.result.kinds ++ kind_of v ∷ [] = search rules in
    reads_for_cell c.args.cells.now c.args.cell c.args.read_only c.args.values.now v
    (record {
      kinds = c.push.new.self;
      values = c.new-arguments.result.values;
      read_only = c.args.read_only;
    }) c.read_on.result held
    (kinds ∙ ap (λ (l : List ℕ). l ++ kind_of v ∷ []) c.new-arguments.ensures.kinds)
    c.new-arguments.ensures.values refl c.read_on.ensures
