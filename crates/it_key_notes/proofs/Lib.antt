pub mod Asking
pub mod Describing
pub mod Noting
