pub mod Check
pub mod Laws
pub mod Line
pub mod ObjectIdentity
pub mod Silent
pub mod SilentText
pub mod inside
