-- What the proofs share.
pub mod Lists
pub mod Turns
pub mod Pages
pub mod Texts
pub mod Images
pub mod Once
