-- What the contracts of this crate cite: positions, faults as trees, the table of faults, and of
-- each fault its class, its position, its name, its text and its fields. `FieldsView` is for
-- functions of the crate's own.
pub mod Places
pub mod Problems
pub mod Cells
pub mod Table
pub mod Classes
pub mod Exits
pub mod Absences
pub mod Positions
pub mod Texts
pub mod Wrappers
pub mod Fields
pub mod CatchValues
pub mod FieldsView
