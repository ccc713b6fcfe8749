use Rattle.std.proofs.Common.{◌∙◌, pos, is_none, drop, sym, ap}
use Rattle.grain_value.specs.Tree.{integer}
use Rattle.grain_stack.specs.Cursors.{items_left}
use Rattle.grain_stack.specs.Entries.{first_of}
use Rattle.grain_stack.specs.declared.cursors.Left.{Left}
use Rattle.grain_stack.proofs.Items.{rest_over, map_over}
use Rattle.grain_stack.proofs.cursors.Left.is_over.Goals as goal

pub returns-in-Values : goal.returns-in-Values
returns-in-Values c =
    rw c.len.ensures.value (rest_over c.in-Values.items c.in-Values.next)
    ∙ ap (λ (l : Left). is_none (first_of (items_left l))) (sym c.in-Values.is)

pub returns-in-Bytes : goal.returns-in-Bytes
returns-in-Bytes c =
    rw c.len-in-Bytes.ensures.value (rest_over c.in-Bytes.items c.in-Bytes.next)
    ∙ map_over (λ b. integer (pos b)) (drop c.in-Bytes.next c.in-Bytes.items)
    ∙ ap (λ (l : Left). is_none (first_of (items_left l))) (sym c.in-Bytes.is)
