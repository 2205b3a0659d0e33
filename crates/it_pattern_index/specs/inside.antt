-- What the contracts of the crate's own functions say, and no public one. Nothing here is trusted.
pub mod Listed
pub mod Narrowed
