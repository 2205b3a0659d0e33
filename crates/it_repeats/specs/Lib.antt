pub mod Again
pub mod Laws
pub mod Parts
pub mod Repeats
pub mod Tree
