pub mod Attested
pub mod Brought
pub mod Further
pub mod Shows
pub mod Usable
