-- What the proofs share, and what holds of the registers.
pub mod Fits
pub mod Fields
pub mod KeptBits
pub mod InRange
pub mod StatusRange
pub mod KeepsRange
pub mod KeepsRandom
pub mod KeepsMoves
pub mod KeepsSlots
pub mod NotKept
pub mod Modes
pub mod Once
