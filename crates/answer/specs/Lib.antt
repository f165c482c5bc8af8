-- The rulebook's answers: digits, frames, the texts that the programs print, and how long they may be.
pub mod Digits
pub mod Wrote
pub mod Put
pub mod Frames
pub mod Texts
pub mod Lengths
pub mod Placed
