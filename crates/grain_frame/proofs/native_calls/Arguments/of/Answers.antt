-- One operand more was read.
use Rattle.std.proofs.Common.{◌≡◌, ◌∙◌, ◌++◌, ◌∷◌, ◌<◌, [], List, Some, length, ap, rules}
use Rattle.grain_value.specs.Cells.{flat}
use Rattle.grain_value.specs.declared.values.Held.{Held}
use Rattle.grain_frame.proofs.Flattening.{next_read, regrouped}
use Rattle.grain_frame.proofs.native_calls.Arguments.of.Goals as goal

pub arguments-preserved : goal.arguments-preserved
arguments-preserved c =
    let was = c.arguments.invariant in
    let h = c.one-item.result in
    let v = c.in-Some.value.now in
    let read : flat c.args.cells.now h.value ≡ Some v = search rules in
    let within : c.arguments.one-index < length c.args.held.now = search rules in
    let next = next_read c.args.cells.now c.args.held.now c.arguments.one-index h v was.1 within
    c.one-item.is read was.3 in (
      was.0 ++ record h { value = v } ∷ [],
      next.0,
      c.in_ok-push-in-Some.ensures was.0 was.2,
      next.2,
      was.4 ∙ ap (λ (l : List Held). Some l)
          (ap (λ (l : List Held). was.0 ++ l) next.1
          ∙ regrouped was.0 (record h { value = v }) next.0),
    )
