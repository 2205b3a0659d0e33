pub mod Inner
pub mod Judged
