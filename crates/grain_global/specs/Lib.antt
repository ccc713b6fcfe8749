-- What contracts cite: the counts of a run, which take no bytes, and what an engine says of callbacks
-- and of the sizes of values.
pub mod Engines
pub mod StepsView
