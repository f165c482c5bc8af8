-- Demands 1 and 2: what every run of the card keeps to, stated of the definitions that its code is proved against.
pub mod Call
pub mod Refusals
pub mod Fields
pub mod StepStops
pub mod Twice
pub mod StepRaises
pub mod Lands
pub mod Runs
pub mod Range
pub mod Given
pub mod Useless
