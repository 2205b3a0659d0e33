pub mod Search
pub mod SortedTexts
