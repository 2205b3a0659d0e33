pub mod Key
pub mod Signature
