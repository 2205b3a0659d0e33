pub mod Described
pub mod Keys
mod Judging
mod KnownLines
pub mod Lines
pub mod Parts
pub mod Saying
pub mod Signing
pub mod TestedIdentity
