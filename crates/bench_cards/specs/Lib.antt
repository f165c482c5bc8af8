-- The bench cards of document 01.
pub mod Cards
