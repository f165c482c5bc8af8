-- The rulebook's CP0.
pub mod Registers
pub mod Status
pub mod Moves
pub mod Exceptions
pub mod Tick
pub mod Range
pub mod Examples
