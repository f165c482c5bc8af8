-- The rulebook's branches and jumps.
pub mod Address
pub mod Branches
pub mod Jumps
