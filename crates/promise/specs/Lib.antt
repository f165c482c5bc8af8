pub mod Unique
pub mod Pick
pub mod Bits
pub mod Table
