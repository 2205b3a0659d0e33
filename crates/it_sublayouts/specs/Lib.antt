pub mod Counted
pub mod inside
