use Rattle.std.proofs.Common.{sym, ◌∙◌}
use Rattle.grain_chain.proofs.walks.Walk.index.Goals as goal

pub index_by_value-requires : goal.index_by_value-requires
index_by_value-requires c =
    (c.target.result.now, (c.target.ensures, sym c.is_indexed.ensures ∙ c.if-is_indexed.true))

pub index_by_host-requires-clause-host : goal.index_by_host-requires-clause-host
index_by_host-requires-clause-host c =
    (c.target.result.now, (c.target.ensures, sym c.is_indexed.ensures ∙ c.if-is_indexed.false))
