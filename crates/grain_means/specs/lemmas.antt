-- Lemmas that the crates above cite. Nothing here is part of a contract's words.
pub mod PlaceLaws
pub mod BesideLaws
pub mod Spreading
pub mod Plays
pub mod Added
pub mod Roots
pub mod Stretches
pub mod Scopes
pub mod Branches
pub mod LentPlaces
