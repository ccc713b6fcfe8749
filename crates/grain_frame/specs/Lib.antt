-- How the machine's code is joined to the meaning: what the code has of a world, and what a stretch of
-- it does. `lemmas` has what the crate above cites.
pub mod Receivers
pub mod Abstraction
pub mod Looping
pub mod Handling
pub mod Operated
pub mod Natives
pub mod Targets
pub mod Waiting
pub mod Rests
pub mod This
pub mod Refusals
pub mod Pointers
pub mod Literals
pub mod Showing
pub mod Attempts
pub mod Following
pub mod lemmas
pub use Rattle.grain_global.specs.StepsView
pub use Rattle.grain_means.specs.Means
pub use Rattle.grain_means.specs.Worlds
pub use Rattle.grain_means.specs.Rules
pub use Rattle.grain_stack.specs.Views
