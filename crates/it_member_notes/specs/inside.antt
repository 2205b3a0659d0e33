pub mod NamedLayout
