-- Which arguments the program takes.
pub mod Arguments
