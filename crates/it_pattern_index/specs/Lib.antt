pub mod FirstMatch
pub mod inside
