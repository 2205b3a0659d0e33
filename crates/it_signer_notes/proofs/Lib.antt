pub mod Fronts
pub mod Once
pub mod Showing
pub mod Texts
