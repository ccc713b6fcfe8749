-- To know what a listing says, read `Reading`, `LineMeanings` and `Statements`, and of the others
-- and of `grain_literals` what they cite. `views` has what the reader's own parts mean, which
-- private contracts alone cite.
pub mod Instructions
pub mod Later
pub mod Table
pub mod Settings
pub mod Flags
pub mod HostLines
pub mod Headers
pub mod ChainWords
pub mod SwitchWords
pub mod InstructionLines
pub mod Statements
pub mod SwitchTargets
pub mod LineMeanings
pub mod Reading
pub mod ListingViews
pub mod views
