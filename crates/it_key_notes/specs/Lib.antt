pub mod Laws
pub mod Line
pub mod Reasons
pub mod UnknownKeys
