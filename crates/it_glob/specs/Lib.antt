pub mod Pattern
pub mod inside
