pub mod Reading
pub mod Replacing
pub mod WrittenLines
