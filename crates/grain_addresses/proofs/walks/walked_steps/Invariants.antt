use Rattle.std.proofs.Common.{◌≡◌, ◌+◌, ◌≤◌, ◌++◌, length}
use Rattle.grain_words.specs.Lines.{lines_of}
use Rattle.grain_addresses.specs.Walks.{start, walked_steps, IsBounded}
use Rattle.grain_addresses.proofs.walks.walked_steps.Given as goal

abbrev pub invariant-lines : goal.invariant-lines
invariant-lines l = record {
  found : l.found.items ++ walked_steps l.walk (lines_of l.rest) ≡ walked_steps start (lines_of l.text);
  bounded : IsBounded l.walk;
  room : l.walk.lines + length l.rest ≤ length l.text;
}

abbrev pub decreases-lines : goal.decreases-lines
decreases-lines l = length l.rest
