pub mod Tests
pub mod Verdicts
pub mod Encodings
pub mod Infos
pub mod Reading
