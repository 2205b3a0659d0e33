pub mod Faults
pub mod LinksCount
pub mod LinksSize
pub mod Reading
pub mod RingFlaw
pub mod Shown
pub mod Walks
pub mod inside
