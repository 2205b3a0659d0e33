pub mod Accepting
pub mod Cut
pub mod FaultForms
pub mod Forms
pub mod LineForms
pub mod PlaceForms
pub mod ReportTelling
pub mod Reports
