pub mod Moves
pub mod Takes
pub mod Writes
pub mod Readings
