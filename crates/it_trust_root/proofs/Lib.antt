pub mod Fractions
pub mod Lengths
pub mod Logs
pub mod Parts
pub mod RootParts
pub mod Same
pub mod Times
