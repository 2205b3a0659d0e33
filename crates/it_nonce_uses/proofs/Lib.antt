pub mod FilesUsed
pub mod Listed
