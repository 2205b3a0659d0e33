pub mod Descending
pub mod Files
pub mod OneByOne
pub mod Outcomes
pub mod Pairs
pub mod Searching
pub mod Standing
mod Turns
