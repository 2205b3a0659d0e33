pub mod FewBraces
pub mod LinesWritten
pub mod LinksWithin
pub mod OverLimit
