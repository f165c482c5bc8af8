-- The rulebook's instructions, in the manual's groups; `Execute` is over them all.
pub mod Arithmetic
pub mod Logic
pub mod Shifts
pub mod Multiply
pub mod Traps
pub mod LoadStore
pub mod System
pub mod Execute
