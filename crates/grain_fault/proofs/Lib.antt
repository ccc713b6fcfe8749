-- Lemmas of this crate.
mod Spaced
mod Dumping
