pub mod Commands
pub mod Inputs
pub mod Status
pub mod Stopped
pub mod inside
