use Rattle.std.proofs.Common.{◌≡◌, List, length, slice_index_or, subst, ap, sym, ◌∙◌, arith}
use Rattle.std.specs.Prelude.{slice_get}
use Rattle.std.specs.List.{AllByRecursion}
use Rattle.grain_program.specs.View.{no_chain, chain_of}
use Rattle.grain_program.specs.declared.code.chains.Chain.{Chain}
use Rattle.grain_program.specs.Chains.{HasOperands}
use Rattle.grain_chain.specs.Walking.{count_of}
use Rattle.grain_chain.proofs.Pools.{past, entry, of_each, one_of_each}
use Rattle.grain_chain.proofs.contexts.step_at.Goals as goal

pub unreachable-requires : goal.unreachable-requires
unreachable-requires c =
    let none : 0 ≡ count_of c.args.program.now c.args.chain =
    subst (λ (cs : List Chain). 0 ≡ length ((slice_index_or cs c.args.chain no_chain).steps))
    c.chains.ensures
    (ap (λ (k : Chain). length k.steps) (past c.chains.result.now c.args.chain no_chain c.in-None.ensures)) in
    omega (arith, none, c.requires)

pub returns-clause-is : goal.returns-clause-is
returns-clause-is c =
    let same : c.in-Some.chain.now ≡ chain_of c.args.program.now c.args.chain =
    entry c.chains.result.now c.args.chain no_chain c.in-Some.chain.now c.in-Some.ensures
    ∙ ap (λ (cs : List Chain). slice_index_or cs c.args.chain no_chain) c.chains.ensures in
    ap (λ (k : Chain). slice_get k.steps c.args.number) (sym same) ∙ c.at.ensures

pub returns-clause-operands : goal.returns-clause-operands
returns-clause-operands c =
    let p = c.args.program.now in
    let k = c.args.chain in
    let each : AllByRecursion (HasOperands (chain_of p k).operands) (chain_of p k).steps =
    of_each (λ (a : Chain). AllByRecursion (HasOperands a.operands) a.steps) p.chains k no_chain
    (λ i a h. (c.code.ensures.valid.chains i a h).operands) tt in
    one_of_each (HasOperands (chain_of p k).operands) (chain_of p k).steps c.args.number c.at.result.now
    each (returns-clause-is c)
