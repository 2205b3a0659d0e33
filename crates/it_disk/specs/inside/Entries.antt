-- Entries of a folder that are read, as they are held.
use Rattle.std.specs.Prelude.{◌≡◌, ◌↔◌, ℕ, List, IsTrue, string_bytes}
use Rattle.std.specs.Path.{path_buf_bytes, path_join}
use Rattle.it_disk.specs.Walks.{IsReadable}
use Rattle.it_disk.specs.declared.entries.Entry.{Entry}
use Rattle.it_disk.specs.declared.entries.Readable.{Readable}
use Rattle.it_disk.specs.declared.folders.Kind.{Kind}
use Rattle.it_disk.specs.declared.folders.Kind.TheVariants.{File, Folder}

-- the name, and what is read under it
abbrev pub shown : Entry → List ℕ × Kind
shown entry = (string_bytes entry.name, entry.kind)

-- what can be read under the name is told as it is
pub record IsTold (depth : ℕ) (name : List ℕ) (readable : Readable) : Type 0 where
  pub file : IsTrue readable.file ↔ IsReadable depth name File
  pub folder : IsTrue readable.folder ↔ IsReadable depth name Folder

-- the entry is one of a folder that is read so deep: its path is that of its name
pub record IsEntryIn (folder : List ℕ) (depth : ℕ) (entry : Entry) : Type 0 where
  pub at_path : path_buf_bytes entry.path ≡ path_join folder (string_bytes entry.name)
  pub readable : IsReadable depth (string_bytes entry.name) entry.kind
