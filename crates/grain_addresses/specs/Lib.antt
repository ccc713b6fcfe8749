-- What the contracts of this crate cite. For a call of the program read `Calls`; for what is
-- answered `Replies`, then `Places`, `StepLines`,
-- `Finding`, `Queries` and `Texts`. `Kinds` and `Walks` have what private contracts alone cite.
pub mod Places
pub mod Finding
pub mod StepLines
pub mod Queries
pub mod Texts
pub mod Replies
pub mod Calls
pub mod Kinds
pub mod Walks
