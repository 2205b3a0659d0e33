pub mod Curve
pub mod Encoding
pub mod inside
