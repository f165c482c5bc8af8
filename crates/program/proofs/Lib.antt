-- That the contract of a status says all.
pub mod Once
