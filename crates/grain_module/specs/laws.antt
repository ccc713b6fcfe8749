-- Lemmas, which no contract names: how the trees of fragments are stored, that the tree of a
-- fragment falls, and that each and its tree give each other back.
pub mod FragmentCode
pub mod FragmentFalls
pub mod SameFragments
