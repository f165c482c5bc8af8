-- What the proofs share, and that each contract says all.
pub mod Laws
pub mod Lines
pub mod Once
