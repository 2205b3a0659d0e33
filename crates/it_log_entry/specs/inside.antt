pub mod Lines
pub mod NoCheckpoint
pub mod ProofMisses
pub mod Said
