pub mod Signers
pub mod Those
