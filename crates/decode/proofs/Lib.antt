-- The rule of each table, and that each contract says all.
pub mod Tables
pub mod Once
