-- What the crate above cites: what was verified of an instruction (Standing), from what a method did to
-- a turn of the frame (Arms, and Looping where the cursors change), what reads or writes a frame's
-- `this` (Bound), faults that are raised (Failing), operations that are asked for (Charging),
-- entries that are written (Entries), branches that are transfers (Jumping), instructions that may wait
-- for a native (Performing), what waits in the run (Awaited), what instructions rest on then
-- (Resting), and one turn of a frame after another (Turns).
pub mod Standing
pub mod Arms
pub mod Bound
pub mod Failing
pub mod Looping
pub mod Charging
pub mod Entries
pub mod Jumping
pub mod Awaited
pub mod Performing
pub mod Resting
pub mod Turns
