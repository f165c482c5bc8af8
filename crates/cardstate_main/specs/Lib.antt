-- What the program prints, and which arguments it takes.
pub mod Arguments
pub mod Printed
