-- The status of an end, what a reading may answer, and the digits of an argument.
pub mod Digits
pub mod Ends
pub mod Within
