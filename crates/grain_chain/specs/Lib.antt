-- What the contracts of this crate cite: the roots of a walk (Standings), what a walk of the code is
-- (Walking), how the code is compared with a walk by itself (OwnWalks), where the methods of `Walk`
-- lead (Going), and what a method step does (MethodSteps). What a walk does is defined in grain_means
-- (Places, Tasks, Walks).
pub mod Standings
pub mod OwnWalks
pub mod Walking
pub mod Going
pub mod MethodSteps
-- lemmas, which no contract names
pub mod laws
