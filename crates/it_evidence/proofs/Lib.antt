pub mod Expires
