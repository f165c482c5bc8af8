-- The statuses that a program may end with.
pub mod Statuses
