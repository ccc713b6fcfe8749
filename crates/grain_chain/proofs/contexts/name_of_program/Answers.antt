use Rattle.std.proofs.Common.{◌≡◌, ℕ, List, [], slice_index_or, subst, ◌∙◌}
use Rattle.grain_program.specs.View.{name_of}
use Rattle.grain_chain.proofs.Pools.{past}
use Rattle.grain_chain.proofs.contexts.name_of_program.Goals as goal

pub returns-in-None : goal.returns-in-None
returns-in-None c =
    let none : [] ≡ name_of c.args.program.now c.args.index =
    subst (λ (names : List (List ℕ)). [] ≡ slice_index_or names c.args.index []) c.names.ensures
    (past c.names.result.now c.args.index [] c.in-None.ensures) in
    c.new.ensures ∙ none
