pub mod Signature
pub mod Issued
pub mod Logged
pub mod Misses
pub mod IssueMisses
pub mod LogMisses
pub mod inside
