mod Gathered
pub mod ListItems
mod Listed
mod Looked
mod Named
mod Numerals
pub mod Ranges
mod Tabled
pub mod Trees
mod TreesRead
