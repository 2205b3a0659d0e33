pub mod Json
pub mod NamedMembers
pub mod Tree
pub mod inside
