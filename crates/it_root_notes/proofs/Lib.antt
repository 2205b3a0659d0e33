pub mod Chains
pub mod Lines
pub mod Once
pub mod Standing
pub mod Unread
pub mod Used
pub mod UsedAuthority
pub mod Zipping
