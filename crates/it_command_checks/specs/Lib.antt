pub mod CommandChecks
pub mod CommandKeys
pub mod Laws
