-- The rulebook's arithmetic, by subject; `Word` has each instruction under the manual's name.
pub mod Extend
pub mod Sum
pub mod Logic
pub mod Compare
pub mod Shift
pub mod Product
pub mod Quotient
pub mod Word
pub mod Examples
