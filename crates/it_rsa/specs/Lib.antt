pub mod Encoding
pub mod Info
pub mod Key
pub mod Mask
pub mod Signature
pub mod inside
