-- How many bytes the files of links may have in all (this profile's choice).
use Rattle.std.specs.Prelude.{ℕ, ◌+◌, ◌≤◌, List, [], ◌∷◌, length}
use Rattle.it_chain.specs.AllFiles.{all_files}
use Rattle.it_chain.specs.Contents.{Contents}
use Rattle.it_chain.specs.declared.bundle.File.{File}

-- 2 GiB
abbrev pub most_bytes : ℕ
most_bytes = 2147483648

-- how many bytes the files have in all
abbrev pub total_size : List File → ℕ
total_size [] = 0
total_size (file ∷ files) = length file.bytes + total_size files

-- how many bytes the files of links have, in every folder
abbrev pub size_of : Contents → ℕ
size_of links = total_size (all_files links)

-- they are no more than may be read
abbrev pub IsWithinSize : Contents → Type 0
IsWithinSize links = size_of links ≤ most_bytes
