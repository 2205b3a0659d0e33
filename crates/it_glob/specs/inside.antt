pub mod FirstRange
pub mod Ranges
pub mod Restarts
