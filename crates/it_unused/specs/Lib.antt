pub mod Unused
pub mod inside
