pub mod Identity
pub mod KeyObject
pub mod Laws
pub mod Name
