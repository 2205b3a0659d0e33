pub mod FoundOutput
pub mod FullOutput
pub mod Strictly
pub mod SummaryOutput
pub mod VerifyOutputIn
pub mod inside
