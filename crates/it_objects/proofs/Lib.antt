pub mod Converted
pub mod Counted
pub mod Counts
pub mod Lexed
pub mod Options
pub mod Parsed
pub mod Parts
