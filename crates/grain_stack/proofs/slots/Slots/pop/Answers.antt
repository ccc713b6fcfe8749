use Rattle.std.proofs.Common.{◌<◌, ◌∙◌, length, take, ap}
use Rattle.grain_value.specs.Operands.{top}
use Rattle.grain_stack.specs.Filled.{Filled}
use Rattle.grain_stack.proofs.Lists.{top_taken}
use Rattle.grain_stack.proofs.slots.Slots.pop.Goals as goal

pub returns-clause-value : goal.returns-clause-value
returns-clause-value c =
    let some : 0 < length (take c.self.inside.height c.self.inside.slots.items) =
    rw (ap (λ (v : Filled). v.operands) c.self.view_is) c.requires.there in
    c.replace.ensures.value ∙
    (top_taken c.self.inside.height c.self.inside.slots.items _ some c.self.invariant
    c.index_mut.ensures.value ∙
    ap (λ (v : Filled). top v.operands) c.self.view_is)
