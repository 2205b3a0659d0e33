pub mod Splits
pub mod Roots
pub mod Ways
pub mod Paths
pub mod Collisions
pub mod Vectors
