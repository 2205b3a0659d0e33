pub mod Compact
pub mod DigitNumbers
pub mod Rest
pub mod SumLines
