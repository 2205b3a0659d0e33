pub mod SignedAs
