pub mod DigestMembers
pub mod LinkParts
pub mod StatementParts
