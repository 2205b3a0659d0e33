mod Appending
pub mod Names
pub mod Naming
pub mod Noting
pub mod Placed
