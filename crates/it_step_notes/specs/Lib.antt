pub mod Folder
pub mod Line
pub mod NoteLaws
pub mod SignedLayout
pub mod Signing
pub mod StepNotes
pub mod Sublayout
