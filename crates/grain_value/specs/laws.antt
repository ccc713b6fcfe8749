-- Lemmas, which no contract names: how trees are stored, that the tree of a value falls, that a
-- value and its tree give each other back, and what stands at the end of a path after something was
-- put there.
pub mod TreeCode
pub mod Falls
pub mod Same
pub mod PathSteps
pub mod PathLaws
