use Rattle.std.proofs.Common.{◌≡◌, List, slice_index_or, subst, ap}
use Rattle.grain_program.specs.View.{no_chain}
use Rattle.grain_program.specs.declared.code.chains.Chain.{Chain}
use Rattle.grain_program.specs.declared.code.chains.Tail.TheVariants as tail
use Rattle.grain_chain.proofs.Pools.{past}
use Rattle.grain_chain.proofs.contexts.tail_of.Goals as goal

pub returns-in-None : goal.returns-in-None
returns-in-None c =
    subst (λ (cs : List Chain). tail.Read ≡ (slice_index_or cs c.args.chain no_chain).tail) c.chains.ensures
    (ap (λ (k : Chain). k.tail) (past c.chains.result.now c.args.chain no_chain c.in-None.ensures))
