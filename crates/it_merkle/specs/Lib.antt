pub mod Hashed
pub mod Laws
pub mod Proof
pub mod Tree
