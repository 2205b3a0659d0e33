pub mod Accepting
pub mod Stopping
pub mod Summarizing
