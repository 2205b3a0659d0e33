pub mod BodyFaults
pub mod FilesFaults
pub mod KeyValues
pub mod ReadKeys
pub mod SignerNames
