pub mod Names
pub mod Same
