pub mod Curve
pub mod Points
