use Rattle.std.proofs.Common.{sym, ap, ◌∙◌}
use Rattle.grain_value.specs.Looking.{pointer_of}
use Rattle.grain_value.specs.laws.Same.{value_of-tree}
use Rattle.grain_means.specs.Walks
use Rattle.grain_chain.proofs.methods.own_pointer.Goals as goal

pub returns-in-None : goal.returns-in-None
returns-in-None c =
    ap Walks.pointer_in c.in-None.ensures ∙ sym (ap (Walks.own_pointer c.args.name.now) c.in-Map.is)

pub returns-in-Some : goal.returns-in-Some
returns-in-Some c =
    c.as_pointer.ensures ∙ ap pointer_of (sym (value_of-tree c.in-Some.entry.now))
    ∙ ap Walks.pointer_in c.in-Some.ensures
    ∙ sym (ap (Walks.own_pointer c.args.name.now) c.in-Map.is)
