pub mod KnownLines
