pub mod FrontOrder
pub mod Judged
pub mod Reach
