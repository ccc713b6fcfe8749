use Rattle.std.proofs.Common.{◌+◌, ◌*◌, length}
use Rattle.grain_value.proofs.values.+put.Given as goal

abbrev pub decreases-Dynamic::put_steps : goal.decreases-Dynamic::put_steps
decreases-Dynamic::put_steps l = 2 * length l.steps.now

abbrev pub decreases-Array::put_below : goal.decreases-Array::put_below
decreases-Array::put_below l = 2 * length l.rest.now + 1

abbrev pub decreases-Map::put_below : goal.decreases-Map::put_below
decreases-Map::put_below l = 2 * length l.rest.now + 1
