pub mod Folding
pub mod Unfit
