pub mod Agreement
pub mod Key
pub mod Kind
pub mod Line
pub mod Signature
