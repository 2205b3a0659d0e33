pub mod LaidOut
pub mod Patterns
pub mod ProvenanceLines
pub mod ProvenanceNotes
pub mod Values
pub mod inside
