-- What the contracts of this crate cite. Read `Streams` first, then `Reads`, `Puts` and `Memory`.
pub mod Streams
pub mod Reads
pub mod Puts
pub mod Memory
pub mod lemmas
