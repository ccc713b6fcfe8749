-- How long a run is: how many instructions begin in it, in all of its frames.
use Rattle.std.specs.Prelude.{ℕ, ◌+◌}
use Rattle.grain_means.specs.Worlds.{Act, Answer, World, Setup, Todo, InFrame, InCatch, InHost}
use Rattle.grain_means.specs.Ends.{Ends, ended, went, joined}

abbrev pub cost : Todo → ℕ
cost (InFrame f) = 1
cost (InCatch f h x) = 0
cost (InHost c) = 0

abbrev pub run_length : {S : Type 0} {m : Setup S} {act : Act S} {a : Answer} {w : World S} →
    Ends m act a w → ℕ
run_length ended = 0
run_length (went {t = t} d) = cost t + run_length d
run_length (joined d e) = run_length d + run_length e
