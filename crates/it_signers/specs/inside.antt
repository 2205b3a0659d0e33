pub mod SignerNames
