pub mod KeyBytes
pub mod Opened
pub mod Salts
