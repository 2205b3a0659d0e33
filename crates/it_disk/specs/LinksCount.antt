-- How many files and folders links may have in all (this profile's choice).
use Rattle.std.specs.Prelude.{ℕ, ◌+◌, ◌≤◌, length}
use Rattle.it_chain.specs.Contents.{Contents, contents_of, Folders, no_folders, folder}

-- a hundred thousand
abbrev pub most_entries : ℕ
most_entries = 100000

abbrev mutual
  -- how many files and folders there are, at every depth
  pub count_of : Contents → ℕ
  count_of (contents_of files below) = length files + folder_count below

  -- how many folders these are, with what is in them
  pub folder_count : Folders → ℕ
  folder_count no_folders = 0
  folder_count (folder name inner rest) = 1 + count_of inner + folder_count rest

-- they are no more than may be read
abbrev pub IsWithinCount : Contents → Type 0
IsWithinCount links = count_of links ≤ most_entries
