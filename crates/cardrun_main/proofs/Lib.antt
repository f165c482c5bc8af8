-- What is printed fits the buffer; the worked image.
pub mod Fits
pub mod Worked
