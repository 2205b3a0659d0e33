pub mod Appended
pub mod Finding
pub mod Places
pub mod Schemes
