use Rattle.std.proofs.Common.{◌∙◌, ◌∷◌, ◌+◌, List, drop, refl, sym, ap}
use Rattle.grain_value.specs.Tree.{Tree, unit}
use Rattle.grain_value.specs.View.{tree}
use Rattle.grain_stack.proofs.Items.{first_at, behind_taken}
use Rattle.grain_stack.proofs.cursors.next_value.Goals as goal

pub returns : goal.returns
returns c =
    let items = c.args.items.now in
    let next = c.args.next.now in
    first_at items next (next + 1) (tree c.take-value.result) c.take-value.ensures.value refl
    ∙ ap (λ (ts : List Tree). tree c.take-value.result ∷ ts)
    (sym (ap (drop (next + 1)) c.take-value.ensures.rest ∙ behind_taken items next (next + 1) unit refl))
