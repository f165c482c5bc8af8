-- The proofs of demands 1 and 2.
pub mod Stages
pub mod Onward
pub mod Checks
pub mod Acts
pub mod Why
pub mod StepStops
pub mod StepRaises
pub mod Lands
pub mod Twice
pub mod Runs
pub mod Refusals
pub mod Fields
pub mod RunStops
pub mod Range
pub mod Stays
pub mod Example
pub mod Useless
