-- What is printed fits the buffer, and that a contract says all.
pub mod Fits
pub mod Once
