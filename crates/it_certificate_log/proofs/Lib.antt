pub mod Baring
pub mod Counting
pub mod Listing
pub mod Stamping
