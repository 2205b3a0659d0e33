pub mod Kept
pub mod Outcomes
pub mod Telling
pub mod Those
