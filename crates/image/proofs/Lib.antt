-- What the proofs share, and the theorems of images.
pub mod Turns
pub mod Once
pub mod InRange
pub mod Cases
pub mod Reached
pub mod Given
pub mod Exact
