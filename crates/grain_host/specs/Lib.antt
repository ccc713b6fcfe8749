-- What the contracts of this crate cite: the faults of hosts, the law of hosts, what an answer is
-- by that law, the host in memory (`Stops`, `Registers`, `Refusals`, `Pending`, `Mapping`, `Tables`), and
-- that it is lawful (`MapReaching`, `Reaching`, `Clean`, `MapClean`, `Lawful`). `Calling` and
-- `Resuming` are for each host.
pub mod Faults
pub mod Law
pub mod Answers
pub mod Stops
pub mod Registers
pub mod Refusals
pub mod Pending
pub mod Mapping
pub mod Tables
pub mod Truths
pub mod Calling
pub mod Resuming
pub mod MapReaching
pub mod Reaching
pub mod Clean
pub mod MapClean
pub mod Lawful
pub mod Numbering
pub mod Signatures
