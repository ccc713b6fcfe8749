use Rattle.std.proofs.Common.{◌≡◌, take}
use Rattle.grain_chain.proofs.trails.path_with_key.Given as goal

abbrev pub invariant-copy : goal.invariant-copy
invariant-copy l = l.longer ≡ take l.step-index l.step-items
