-- What the contracts of this crate cite. Read `Modules` first, and for fragments `FragmentTree` and
-- `FragmentView`.
pub mod Modules
pub mod FragmentTree
pub mod FragmentView
-- lemmas, which no contract names
pub mod laws
