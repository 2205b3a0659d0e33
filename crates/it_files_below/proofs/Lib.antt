pub mod FilesFound
