-- What is left gives the same pairs, with those that came before.
use Rattle.std.proofs.Common.{◌≡◌, ◌+◌, drop}
use Rattle.grain_value.specs.Maps.{Entries}
use Rattle.grain_means.specs.Rules.{pairs_of}
use Rattle.grain_frame.proofs.literals.first_misfit.Given as goal

abbrev pub invariant-pairs : goal.invariant-pairs
invariant-pairs l = (es : Entries) → (fs : Entries)
    × (pairs_of l.cells l.held es ≡ pairs_of l.cells (drop (l.pair + l.pair) l.held) fs)
