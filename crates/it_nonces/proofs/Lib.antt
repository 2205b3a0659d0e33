pub mod UsesMore
