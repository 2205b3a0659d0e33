pub mod Distinct
pub mod Indexed
pub mod Judged
pub mod Possible
pub mod Shared
pub mod Sought
