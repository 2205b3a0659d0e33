pub mod DocumentText
pub mod InRange
pub mod Last
pub mod Whole
