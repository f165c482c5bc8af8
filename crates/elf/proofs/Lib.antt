-- What the proofs share, and the theorems of ELF files.
pub mod Laws
pub mod Turns
pub mod Once
pub mod Search
pub mod Sound
pub mod Standing
pub mod Reflect
pub mod Given
pub mod Exact
