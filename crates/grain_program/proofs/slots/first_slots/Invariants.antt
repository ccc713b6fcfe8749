-- The first slots so far and those of the chains that are left are all, and there are slots for the
-- chains that are left.
use Rattle.std.proofs.Common.{◌≡◌, ◌+◌, ◌++◌, drop}
use Rattle.grain_program.specs.Chains.{all_slots, first_slots}
use Rattle.grain_program.proofs.slots.first_slots.Given as goal

abbrev pub invariant-loop-chain : goal.invariant-loop-chain
invariant-loop-chain l = record {
  is : l.firsts.items ++ first_slots l.next (drop l.chain-index l.chains)
      ≡ first_slots 0 l.chains;
  room : l.next + all_slots (drop l.chain-index l.chains) ≡ all_slots l.chains;
}
