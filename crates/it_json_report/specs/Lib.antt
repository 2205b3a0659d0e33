pub mod EvidenceReport
pub mod Form
pub mod FullReport
pub mod Json
pub mod JsonLaws
pub mod JsonReport
