pub mod EntriesRead
mod LinksCounted
pub mod LinksRead
mod LinksSized
