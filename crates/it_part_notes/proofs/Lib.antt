pub mod Base64
pub mod NoDocument
pub mod SumLines
