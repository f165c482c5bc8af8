-- The rulebook's machine: fresh, its range, one step, a run, and the numbers that a call gives back.
pub mod Machine
pub mod Step
pub mod Run
