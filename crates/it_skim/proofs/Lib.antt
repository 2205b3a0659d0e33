mod Objects
pub mod Texts
mod Walking
