pub mod Ties
pub mod inside
