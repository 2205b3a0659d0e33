pub mod Arguments
pub mod Commands
pub mod Values
pub mod Words
pub mod inside
