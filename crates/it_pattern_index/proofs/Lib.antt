pub mod Existing
mod Listing
mod Narrowing
