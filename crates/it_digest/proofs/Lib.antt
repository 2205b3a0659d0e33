pub mod ArtifactsLemmas
pub mod Decided
mod DigitPairs
pub mod Entries
pub mod ListedDecided
pub mod ListedLemmas
mod NumbersFound
pub mod SumsDecided
pub mod SumsLemmas
