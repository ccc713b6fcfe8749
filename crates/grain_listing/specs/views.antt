pub mod Limits
pub mod Flags
pub mod Results
pub mod Chains
pub mod Assembling
pub mod AssemblerView
pub mod Linking
pub mod Ordered
