-- The rulebook's decoding.
pub mod Fields
pub mod Maps
pub mod Decode
pub mod Laws
pub mod Words
