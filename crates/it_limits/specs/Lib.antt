pub mod Limit
pub mod Lines
pub mod Links
