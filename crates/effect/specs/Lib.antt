-- The rulebook's step: what it comes to, and how Cpu and CP0 go on.
pub mod Step
pub mod After
