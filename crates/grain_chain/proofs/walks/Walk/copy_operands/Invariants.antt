-- So many operands are copied.
use Rattle.std.proofs.Common.{◌≡◌, ◌+◌, ◌++◌, drop, length, take}
use Rattle.grain_chain.proofs.walks.Walk.copy_operands.Given as goal

abbrev pub invariant-copies : goal.invariant-copies
invariant-copies l = record {
  copied : l.values ≡ l.initial.values ++ take l.index (drop l.first l.self.operands);
  counted : length l.values ≡ length l.initial.values + l.index;
}
