-- The rulebook's ELF files: their numbers, headers, homes, faults and symbols.
pub mod Bytes
pub mod Header
pub mod Home
pub mod Pages
pub mod Faults
pub mod Symbol
pub mod Exact
