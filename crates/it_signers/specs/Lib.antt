pub mod FileEnvelope
pub mod SignersOutput
pub mod inside
