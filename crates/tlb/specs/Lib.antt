-- The rulebook's addresses and TLB.
pub mod PageMask
pub mod Slot
pub mod Match
pub mod Translate
pub mod SamePage
pub mod Segments
pub mod Probe
pub mod Range
