-- What a host owes. A reader of the contracts reads Rules (which rule a listing says, and how its
-- run ends), Reports (what is written of the end), Examples, and Prices and Budget (the laws of two
-- hosts).
pub mod Rules
pub mod Reports
pub mod Examples
pub mod Prices
pub mod Budget
