pub mod DocumentsHold
pub mod Evidence
pub mod Failures
pub mod Inspections
pub mod Judging
pub mod Outcomes
pub mod Provenance
pub mod Taking
