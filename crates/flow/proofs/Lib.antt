-- What is proved besides the functions: that no contract admits two results.
pub mod Once
