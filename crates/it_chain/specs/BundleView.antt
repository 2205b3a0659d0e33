-- Which contents the fields of a bundle represent.
use Rattle.std.specs.Prelude.{ℕ, suc, ◌+◌, ◌≤◌, max, List, [], ◌∷◌, map, String, string_bytes}
use Rattle.std.proofs.Common.{arith}
use denote.Param.Weighed.{most}
use Rattle.std.specs.declared.alloc.Global.{Global}
use Rattle.it_chain.specs.Contents.{Contents, contents_of, Folders, no_folders, folder}
use Rattle.it_chain.specs.declared.bundle.File.{File}

abbrev pub folders_view : List (String Global × Contents) → Folders
folders_view [] = no_folders
folders_view (entry ∷ entries) = folder (string_bytes entry.0) entry.1 (folders_view entries)

abbrev pub contents_view : List File → List (String Global × Contents) → Contents
contents_view files entries = contents_of files (folders_view entries)

-- how deep the folders go
abbrev mutual
  pub height : Contents → ℕ
  height (contents_of files below) = folders_height below

  pub folders_height : Folders → ℕ
  folders_height no_folders = 0
  folders_height (folder name inner rest) = max (suc (height inner)) (folders_height rest)

-- no folder is as high as the bundle that it is in
pub most_le-folders_height : (entries : List (String Global × Contents))
    → most (λ inner. height inner + 1) (map (λ entry. entry.1) entries) ≤ folders_height
    (folders_view entries)
most_le-folders_height [] = omega arith
most_le-folders_height (entry ∷ entries) = omega (arith, most_le-folders_height entries)
