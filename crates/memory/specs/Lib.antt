-- The rulebook's memory: reading it, loads, unaligned loads, stores, and the laws of bytes and of stores.
pub mod Bytes
pub mod BytesLaws
pub mod Memory
pub mod Loads
pub mod Unaligned
pub mod Stores
pub mod StoreLaws
pub mod Landings
