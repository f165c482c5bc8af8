-- That each contract says all, and the order of the checks on two words.
pub mod Once
pub mod Words
