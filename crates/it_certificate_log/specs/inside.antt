pub mod Begins
pub mod Critical
pub mod Short
