-- What a program means. A reader of the contracts reads Worlds, Rules, Ends, Means, Comes, Causes,
-- Blame, Leavings and CatchBlocks, in this order, and beside Rules what the variable of a catch holds
-- (CatchValues) and how a function that is not found is named (Signatures). Places says what stands at
-- a place, Tasks what a walk along one may do, Walks what a chain's walk does, and WalkEnds and Readings
-- what holds of it, and Staying what stands there once a function is over. Length and Simulation say how
-- runs are counted and how code is joined to them.
pub mod Worlds
pub mod Places
pub mod Tasks
pub mod Walks
pub mod WalkEnds
pub mod Readings
pub mod Rules
pub mod Ends
pub mod Length
pub mod Simulation
pub mod Means
pub mod Core
pub mod Comes
pub mod Causes
pub mod Blame
pub mod Leavings
pub mod CatchBlocks
pub mod Contained
pub mod Staying
pub mod Driving
pub mod lemmas
pub use Rattle.grain_value.specs.Operands
pub use Rattle.grain_fault.specs.CatchValues
pub use Rattle.grain_host.specs.Signatures
pub use Rattle.grain_ops.specs.Outcomes
pub use Rattle.grain_ops.specs.Operators
