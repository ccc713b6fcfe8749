-- What the contracts of this crate cite. Read `Tree`, `View`, `Quoting`, `Writing` and `Scopes`
-- first, and for places inside a value `Paths`, `Locating` and `Parts`. `Lending` says what a scope
-- is after a loan, `LentEntries` what a list is, and `Extensions` serves one private function.
pub mod Tree
pub mod View
pub mod Maps
pub mod Pointers
pub mod Quoting
pub mod Looking
pub mod Items
pub mod Writing
pub mod Tokens
pub mod Scopes
pub mod Cells
pub mod Sizes
pub mod Spare
pub mod Lending
pub mod LentEntries
pub mod Extensions
pub mod Operands
pub mod Paths
pub mod Locating
pub mod Parts
-- lemmas, which no contract names
pub mod laws
