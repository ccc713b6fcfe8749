-- One value more was read, or one is a cell whose content is lent.
use Rattle.std.proofs.Common.{rules, refl, sym, ap, ◌∙◌, ◌≡◌, ◌∷◌, [], ◌++◌, ℕ, List, Some, None}
use Rattle.grain_value.specs.Tree.{Tree}
use Rattle.grain_value.specs.View.{tree}
use Rattle.grain_value.specs.Writing.{kind_of}
use Rattle.grain_value.specs.Cells.{flat}
use Rattle.grain_value.specs.Operands.{read_write}
use Rattle.grain_vm.proofs.Reading.{reads_on, reads_none, given_kinds, trees_more, given_flag}
use Rattle.grain_vm.proofs.arguments.read_on.Goals as goal

pub returns-in-None : goal.returns-in-None
returns-in-None c = λ x begun.
    let was = c.values.invariant in
    let lent : flat c.args.cells.now c.at.result.now ≡ None = search rules in
    was.2 ∙ reads_none c.args.cells.now c.args.values.now c.values.index c.at.result.now was.0
    c.at.ensures lent

pub values-preserved : goal.values-preserved
values-preserved c =
    let was = c.values.invariant in
    let v = c.in-Some.value.now in
    let read : flat c.args.cells.now c.at.result.now ≡ Some v = search rules in
    let kinds : c.push.new.self ≡ c.values.arguments.kinds ++ kind_of v ∷ [] = search rules in
    let values : c.push-in-Some.new.self ≡ c.values.arguments.values ++ tree v ∷ [] = search rules in (
      was.0 ++ read_write v ∷ [],
      λ x begun. let before = was.1 x begun in record {
        kinds =
            kinds ∙ ap (λ (l : List ℕ). l ++ kind_of v ∷ []) before.kinds
            ∙ sym (given_kinds x was.0 (read_write v));
        values =
            values ∙ ap (λ (l : List Tree). l ++ tree v ∷ []) before.values
            ∙ sym (trees_more was.0 (read_write v));
        read_only = before.read_only ∙ sym (given_flag x was.0 (read_write v) refl);
      },
      was.2 ∙ reads_on c.args.cells.now c.args.values.now c.values.index c.at.result.now v was.0
          c.at.ensures read,
    )
