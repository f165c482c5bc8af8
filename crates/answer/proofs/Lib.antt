-- Why the functions meet their definitions.
pub mod Laws
pub mod Writes
pub mod Once
pub mod Worked
pub mod Lengths
