pub mod FileEvidence
pub mod Laws
pub mod Signer
pub mod inside
