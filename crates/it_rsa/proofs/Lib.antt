pub mod Masks
pub mod Verdicts
pub mod Infos
pub mod Keys
