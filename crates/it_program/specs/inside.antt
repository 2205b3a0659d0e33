pub mod PassedOver
pub mod SilentNotes
pub mod Spent
