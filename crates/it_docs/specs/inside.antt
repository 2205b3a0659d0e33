pub mod LayoutFaults
pub mod Numbered
pub mod PolicyFaults
pub mod RuleAnswer
