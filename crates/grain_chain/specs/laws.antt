-- Lemmas, which no contract names: how stretches of a walk are put together, the way back, and where the
-- methods of `Walk` lead.
pub mod Joining
pub mod Ways
pub mod Told
