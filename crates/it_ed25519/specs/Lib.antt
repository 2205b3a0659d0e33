pub mod PublicKey
pub mod Signature
