pub mod Info
pub mod Laws
pub mod Pkcs1
pub mod Pss
pub mod inside
