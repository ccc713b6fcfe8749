-- Lemmas on the definitions, which the proofs of this crate and of those above it cite. No contract
-- names them.
pub mod Widths
pub mod Tags
pub mod Starts
pub mod Layout
pub mod Ascending
pub mod SwitchTargets
pub mod Leads
pub mod TypedAt
pub mod Lookups
