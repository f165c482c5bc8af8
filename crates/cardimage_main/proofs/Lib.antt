-- What the proofs share.
pub mod Fits
