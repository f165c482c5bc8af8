-- Why the functions meet their definitions.
pub mod Examples
pub mod Tables
pub mod Runs
pub mod Merges
pub mod Spans
pub mod MemoryLaws
pub mod StoreLaws
pub mod LoadLaws
pub mod Once
