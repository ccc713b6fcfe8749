-- The chains so far obey the rules.
use Rattle.std.proofs.Common.{◌≡◌, ◌≤◌, drop}
use Rattle.grain_program.specs.Chains.{most_slots, first_bad_chain}
use Rattle.grain_program.proofs.verifier.chain_rules.bad_chain.Given as goal

abbrev pub invariant-loop-index : goal.invariant-loop-index
invariant-loop-index l = record {
  is : first_bad_chain l.index l.slots (drop l.index l.chains) ≡ first_bad_chain 0 0 l.chains;
  room : l.slots ≤ most_slots;
}
