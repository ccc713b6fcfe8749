use Rattle.std.proofs.Common.{sym, ap, ◌∙◌}
use Rattle.grain_chain.specs.Standings.{has_key}
use Rattle.grain_chain.proofs.walks.Walk.property.Goals as goal

pub property_by_key-requires : goal.property_by_key-requires
property_by_key-requires c = (
  c.target.result.now,
  (
    c.target.ensures,
    ap (has_key c.target.result.now) (sym c.name_at-key.ensures) ∙ sym c.has_key.ensures ∙ c.in-Some.is,
  ),
)

pub property_by_host-requires-clause-host : goal.property_by_host-requires-clause-host
property_by_host-requires-clause-host c = (
  c.target.result.now,
  (
    c.target.ensures,
    ap (has_key c.target.result.now) (sym c.name_at-key.ensures) ∙ sym c.has_key.ensures ∙ c.in-None.is,
  ),
)

pub returns-in-Some-clause-takes : goal.returns-in-Some-clause-takes
returns-in-Some-clause-takes c = c.property_by_key.ensures.takes c.args.getter c.args.setter
