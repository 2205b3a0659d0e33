pub mod Element
pub mod Laws
