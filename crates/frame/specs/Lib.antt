-- The rulebook's lines and frames.
pub mod Line
pub mod Digits
pub mod Frame
