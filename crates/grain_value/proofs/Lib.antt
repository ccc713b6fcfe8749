pub mod Entries
pub mod Newest
pub mod Pairs
pub mod PartWritten
pub mod PathEntries
pub mod Prefixes
pub mod Spares
pub mod Totals
