-- The operands of a line. All of these files are cited by contracts, but `laws`: read `Values`,
-- `Literals` and `Operands` first.
pub mod Steps
pub mod Reasons
pub mod Operands
pub mod Values
pub mod Listed
pub mod Literals
pub mod Results
pub mod laws
