use Rattle.std.proofs.Common.{length, ap, ◌∙◌, arith}
use Rattle.grain_program.proofs.GoodChains.{as_many, chain_fits, slot_fits, slot_is}
use Rattle.grain_program.proofs.slots.slot_among.Goals as goal

pub bounds-firsts-index : goal.bounds-firsts-index
bounds-firsts-index c = omega (
  arith,
  ap length c.requires.firsts ∙ as_many 0 c.args.chains.now,
  c.requires.there,
)

pub slots_before-requires : goal.slots_before-requires
slots_before-requires c =
    chain_fits c.args.chains.now c.args.index c.index-chains-index.result c.requires.there
    c.index-chains-index.is c.requires.room

pub overflow_add-result : goal.overflow_add-result
overflow_add-result c = omega (
  arith,
  slot_fits c.args.chains.now c.args.index c.index-chains-index.result c.requires.there
      c.index-chains-index.is c.requires.room c.args.firsts.now c.args.number
      c.slots_before.result c.requires.firsts c.slots_before.ensures,
)

pub returns : goal.returns
returns c =
    slot_is c.args.chains.now c.args.index c.index-chains-index.result c.requires.there
    c.index-chains-index.is c.requires.room c.args.firsts.now c.args.number c.slots_before.result
    c.requires.firsts c.slots_before.ensures
