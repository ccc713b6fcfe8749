-- Lemmas that the crates above cite. Nothing here is part of a contract's words.
pub mod Scalars
