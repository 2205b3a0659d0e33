pub mod Answer
pub mod SignerNotes
pub mod ToldLines
