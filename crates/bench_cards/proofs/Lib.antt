-- The proof of the table.
pub mod Loaded
pub mod Goes
pub mod Cards
