pub mod Finding
pub mod Texts
