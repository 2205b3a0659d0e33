pub mod FilesEvident
pub mod HighestLevels
pub mod Proven
pub mod ReadLines
pub mod Signing
