pub mod Bytes
pub mod Laws
pub mod Modular
