-- What contracts see of a machine, and the definitions that they name: what a program means, and
-- why it ends so. The public contracts need only VmView and Machines; the others are for the
-- contracts inside the crate.
pub mod VmView
pub mod MachineView
pub mod Machines
pub mod Finding
pub mod Calls
pub mod Catching
pub mod Seats
pub mod Driving
pub mod Chains
pub mod Methods
pub mod Underway
pub mod Receivers
pub mod Asks
pub mod Backs
pub mod WalkNatives
pub mod OnReceivers
pub mod Apart
pub use Rattle.grain_global.specs.StepsView
pub use Rattle.grain_means.specs.Worlds
pub use Rattle.grain_means.specs.Rules
pub use Rattle.grain_means.specs.Ends
pub use Rattle.grain_means.specs.Means
pub use Rattle.grain_means.specs.Causes
pub use Rattle.grain_means.specs.Comes
pub use Rattle.grain_means.specs.Leavings
pub use Rattle.grain_stack.specs.Views
