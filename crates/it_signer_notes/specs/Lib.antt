pub mod BuilderKeys
pub mod Nearest
pub mod SignerText
pub mod Signers
pub mod inside
