-- Why every end of a program has a status of the four.
pub mod Known
