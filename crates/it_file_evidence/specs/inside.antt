pub mod Asked
pub mod Proven
