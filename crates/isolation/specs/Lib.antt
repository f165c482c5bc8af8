-- Demand 3: what a User program reaches, and the promise of isolation.
pub mod Reach
pub mod Means
pub mod Neighbour
pub mod Isolation
pub mod OneMachine
pub mod Example
pub mod Shared
