pub mod Flaw
pub mod Instead
pub mod Members
pub mod Moments
pub mod PartLines
pub mod PartNotes
pub mod SumLine
