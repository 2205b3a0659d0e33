pub mod Fault
pub mod Name
pub mod Report
pub mod ReportLaws
