-- The words of a listing. All of these files are cited by contracts: read `Lines` and `Words`
-- first.
pub mod Lines
pub mod Words
pub mod Characters
pub mod Bytes
pub mod Numerals
pub mod PositionWords
pub mod Labels
pub mod LabelView
pub mod Spelled
pub mod lemmas
