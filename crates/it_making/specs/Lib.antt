pub mod ArtifactDocuments
pub mod LinkOutput
pub mod StatementOutput
pub mod inside
