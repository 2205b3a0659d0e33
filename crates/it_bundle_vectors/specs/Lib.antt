pub mod Agreement
pub mod Vector
