pub mod FilesBelow
