pub mod CountsBy
pub mod EvidenceLaws
pub mod Exactly
pub mod StepEvidence
pub mod inside
