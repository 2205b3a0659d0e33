pub mod FolderPrefix
pub mod Item
pub mod Marks
pub mod Paths
pub mod Ranges
pub mod Rules
pub mod inside
