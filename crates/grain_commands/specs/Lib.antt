-- What the contracts of this crate cite. For what a call of the program does, read `Statuses`, then
-- what it names in `Replies`, `Reports` and `Runs`; for the headline, read `Headline`.
pub mod Reports
pub mod SelfListings
pub mod Replies
pub mod Runs
pub mod Statuses
pub mod Headline
pub mod Programs
