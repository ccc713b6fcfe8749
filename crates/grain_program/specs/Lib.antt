-- The contracts of public functions are read with these files: a program as lists, the instruction
-- set and what follows from an instruction's row, the rules that a program obeys, and what is
-- verified of it.
pub mod Bits
pub mod View
pub mod Switches
pub mod Chains
pub mod InstructionSet
pub mod Fields
pub mod Decoding
pub mod Spelling
pub mod Effects
pub mod Indices
pub mod Capabilities
pub mod Layout
pub mod Starts
pub mod Rules
pub mod Refusals
pub mod Shapes
pub mod Typing
pub mod TypedAt
pub mod Lookups
pub mod Recorded
-- the table with which the rules of instructions are tested, which the contracts of private
-- functions name
pub mod Owners
-- the addresses that wait in the search for a typing, the lists of handlers and the shapes, as
-- private functions have them
pub mod Waiting
pub mod HandlerLists
pub mod Numbered
pub mod Reached
-- lemmas, which no contract names
pub mod laws
