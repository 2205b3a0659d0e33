pub mod Cores
pub mod CountingFile
pub mod CountingLink
pub mod JudgedRules
