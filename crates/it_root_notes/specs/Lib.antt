pub mod AuthorityMisses
pub mod AuthorityText
pub mod Front
pub mod Laws
pub mod LogText
pub mod Missing
