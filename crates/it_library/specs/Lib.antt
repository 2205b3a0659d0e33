pub mod Answer
pub mod Handed
pub mod Version
pub mod inside
