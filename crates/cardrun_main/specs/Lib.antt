-- What the program prints, and that document 01's worked image gives its answer.
pub mod Printed
pub mod Worked
