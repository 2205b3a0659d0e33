pub mod Checked
pub mod FilesRead
pub mod IdentityWritten
pub mod KeysRead
pub mod KeysWritten
pub mod KeyvalsWritten
pub mod Naming
pub mod RsaForms
