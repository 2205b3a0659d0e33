pub mod BundleNotes
pub mod Commands
pub mod Stopped
pub mod TrustedSigners
