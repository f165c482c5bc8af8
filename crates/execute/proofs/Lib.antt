-- What is proved besides the functions: worked examples, and that no contract admits two results.
pub mod Examples
pub mod Once
