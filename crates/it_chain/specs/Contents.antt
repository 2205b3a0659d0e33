-- What a bundle holds: files, and folders that are bundles themselves (this profile's choice;
-- in-toto 1.0 leaves to its users how metadata is stored).
use Rattle.std.specs.Prelude.{ℕ, List, [], ◌∷◌, ◌++◌, Option, Some, None}
use Rattle.std.specs.Ordering.{nat_cmp, match_ordering}
use Rattle.std.specs.Cmp.Lexicographic.{slice_cmp}
use Rattle.it_chain.specs.declared.bundle.File.{File}

mutual
  -- files in order, whose names may repeat, and folders
  pub data Contents : Type 0 where
    contents_of : List File → Folders → Contents

  -- folders under names, in the order of the names' bytes
  pub data Folders : Type 0 where
    no_folders : Folders
    folder : List ℕ → Contents → Folders → Folders

abbrev pub empty : Contents
empty = contents_of [] no_folders

abbrev pub files_of : Contents → List File
files_of (contents_of files below) = files

-- the contents with one more file
abbrev pub with_file : File → Contents → Contents
with_file file (contents_of files below) = contents_of (files ++ file ∷ []) below

-- the folder of this name
abbrev pub folder_in : List ℕ → Folders → Option Contents
folder_in name no_folders = None
folder_in name (folder other inner rest) =
    match_ordering (slice_cmp nat_cmp name other) (folder_in name rest) (Some inner)
    (folder_in name rest)

abbrev pub folder_at : List ℕ → Contents → Option Contents
folder_at name (contents_of files below) = folder_in name below

-- the folders with one put in its place
abbrev pub put : List ℕ → Contents → Folders → Folders
put name added no_folders = folder name added no_folders
put name added (folder other inner rest) =
    match_ordering (slice_cmp nat_cmp name other) (folder name added (folder other inner rest))
    (folder other added rest) (folder other inner (put name added rest))

-- the contents with one folder put in
abbrev pub with_folder : List ℕ → Contents → Contents → Contents
with_folder name added (contents_of files below) = contents_of files (put name added below)
