pub mod Cuts
pub mod Refusal
