pub mod Lengths
pub mod Reading
pub mod Writing
