-- What the contracts of this crate cite. Read `Operators` first: it says which built-in takes which
-- values. `Calculations`, `Shifts` and `Texts` say what they make of them.
pub mod Outcomes
pub mod Calculations
pub mod Shifts
pub mod Texts
pub mod Operators
pub mod Answers
pub mod Agreement
