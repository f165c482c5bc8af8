-- The laws over the width that the functions' proofs cite, and the uniqueness of each contract.
pub mod Cut
pub mod Registers
pub mod SumLaws
pub mod Overflow
pub mod CompareLaws
pub mod ShiftLaws
pub mod ProductLaws
pub mod QuotientLaws
pub mod LogicLaws
pub mod Once
