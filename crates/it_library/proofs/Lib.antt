pub mod Answered
pub mod Pieces
