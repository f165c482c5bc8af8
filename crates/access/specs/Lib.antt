-- The rulebook's fetch and data access, memory as they see it, and the effect of a step.
pub mod Memory
pub mod Effect
pub mod Access
pub mod Fetch
