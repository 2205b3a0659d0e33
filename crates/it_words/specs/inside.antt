pub mod Rows
pub mod Unfit
