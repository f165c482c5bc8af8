-- The rulebook's checks between decoding and execution.
pub mod Doubleword
pub mod Ready
