use Rattle.std.proofs.Common.{ap, arith}
use Rattle.grain_program.specs.Chains.{steps_slots}
use Rattle.grain_program.proofs.GoodChains.{steps_within}
use Rattle.grain_program.proofs.slots.slots_before.Goals as goal

pub steps_slots-requires : goal.steps_slots-requires
steps_slots-requires c = omega (
  arith,
  steps_within c.min.result c.as_slice-steps.result.now,
  ap steps_slots c.as_slice-steps.ensures,
  c.requires,
)

pub overflow_add-result : goal.overflow_add-result
overflow_add-result c = omega (
  arith,
  steps_within c.min.result c.as_slice-steps.result.now,
  ap steps_slots c.as_slice-steps.ensures,
  c.slots.ensures.exact,
  c.steps_slots.ensures,
  c.requires,
)
