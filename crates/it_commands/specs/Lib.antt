pub mod DigestOutput
pub mod MatchOutput
pub mod NoEnvelope
pub mod PayloadOutput
pub mod SignOntoOutput
pub mod SignNotes
pub mod SignOutput
pub mod SignedOutput
