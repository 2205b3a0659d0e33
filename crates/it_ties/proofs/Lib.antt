pub mod Marking
pub mod Tied
