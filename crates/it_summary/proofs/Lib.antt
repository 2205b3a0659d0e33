pub mod Bodies
pub mod SubjectsWritten
