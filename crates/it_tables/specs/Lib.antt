pub mod Comparison
pub mod Outcome
pub mod Part
pub mod Status
