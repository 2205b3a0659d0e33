pub mod NamesAfter
pub mod Ordered
