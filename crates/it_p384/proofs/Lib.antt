pub mod Tests
pub mod Combining
pub mod Encodings
pub mod Infos
pub mod Digits
