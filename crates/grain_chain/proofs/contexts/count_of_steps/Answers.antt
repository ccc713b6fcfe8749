use Rattle.std.proofs.Common.{◌≡◌, List, length, slice_index_or, subst, ap}
use Rattle.grain_program.specs.View.{no_chain}
use Rattle.grain_program.specs.declared.code.chains.Chain.{Chain}
use Rattle.grain_chain.proofs.Pools.{past}
use Rattle.grain_chain.proofs.contexts.count_of_steps.Goals as goal

pub returns-in-None : goal.returns-in-None
returns-in-None c =
    subst (λ (cs : List Chain). 0 ≡ length ((slice_index_or cs c.args.chain no_chain).steps))
    c.chains.ensures
    (ap (λ (k : Chain). length k.steps) (past c.chains.result.now c.args.chain no_chain c.in-None.ensures))
