pub mod Agreement
pub mod Answer
pub mod Cases
pub mod Part
pub mod Reading
