use Rattle.std.proofs.Common.{◌≡◌, ℕ, List, [], slice_index_or, subst, ap, ◌∙◌}
use Rattle.grain_fault.specs.Problems.{problem_of}
use Rattle.grain_host.specs.Signatures.{says_missing}
use Rattle.grain_program.specs.View.{name_of}
use Rattle.grain_chain.proofs.Pools.{past}
use Rattle.grain_chain.proofs.answers.is_missing.Goals as goal

pub returns-in-None : goal.returns-in-None
returns-in-None c =
    let none : [] ≡ name_of c.args.program.now c.args.name =
    subst (λ (names : List (List ℕ)). [] ≡ slice_index_or names c.args.name []) c.names.ensures
    (past c.names.result.now c.args.name [] c.in-None.ensures) in
    c.says_missing-in-None-2.ensures
    ∙ ap (λ (n : List ℕ). says_missing n (problem_of c.args.fault.now))
    (c.new.ensures ∙ none)
