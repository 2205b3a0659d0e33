pub mod inside
pub mod Bare
pub mod Counted
pub mod Items
pub mod SignedText
pub mod Timestamp
