pub mod Bundle
pub mod Certificate
pub mod Entries
pub mod Laws
pub mod Material
pub mod Version
