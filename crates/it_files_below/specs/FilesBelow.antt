-- The files at or below a path (this profile's choice).
use Rattle.std.specs.Prelude.{◌≡◌, ◌↔◌, ℕ, List, [], ◌∷◌, ◌++◌, Contains, ◌||◌, bytes_eq, codes}
use Rattle.std.specs.Prelude.{if◌then◌else◌}
use Rattle.std.specs.Cmp.Lexicographic.{slice_cmp}
use Rattle.std.specs.List.Sorted.{IsStrictlySortedBy}
use Rattle.std.specs.Ordering.{nat_cmp}
use Rattle.std.specs.Path.{path_join}
use Rattle.it_disk.specs.declared.folders.Kind.{Kind}
use Rattle.it_disk.specs.declared.folders.Kind.TheVariants.{File, Folder}
use Rattle.it_disk.specs.declared.listing.Listed.{Listed}
use Rattle.it_disk.specs.Reading.{Holdings}

-- what the paths of what a folder holds begin with: the path of the folder, but nothing for the
-- folder in which the program runs
abbrev pub beginning_of : List ℕ → List ℕ
beginning_of folder =
    if bytes_eq folder (codes ".") || bytes_eq folder (codes "./") then [] else folder

-- the path of what a folder holds under a name
abbrev pub path_in : List ℕ → List ℕ → List ℕ
path_in folder name = path_join (beginning_of folder) name

-- the files of these entries of a folder: for a file its path, and for a folder all files below it
pub data HasFiles (disk : Holdings) : List ℕ → List Listed → List (List ℕ) → Type 0 where
  nothing : {folder : List ℕ} → HasFiles disk folder [] []
  and_file : {folder : List ℕ} {entries : List Listed} {files : List (List ℕ)}
      → HasFiles disk folder entries files → (entry : Listed) → entry.kind ≡ File
      → HasFiles disk folder (entries ++ entry ∷ []) (files ++ path_in folder entry.name ∷ [])
  and_folder : {folder : List ℕ} {entries : List Listed} {files : List (List ℕ)}
      → HasFiles disk folder entries files → (entry : Listed) → entry.kind ≡ Folder
      → {inner : List Listed} → disk.entries (path_in folder entry.name) inner
      → {below : List (List ℕ)} → HasFiles disk (path_in folder entry.name) inner below
      → HasFiles disk folder (entries ++ entry ∷ []) (files ++ below)

-- the files below a folder, one after the other as the folders hold them
pub record HoldsFiles (disk : Holdings) (folder : List ℕ) (files : List (List ℕ)) : Type 0 where
  pub entries : List Listed
  pub holds : disk.entries folder entries
  pub has : HasFiles disk folder entries files

-- all files below a folder, each once, in the order of their bytes
pub record AreBelow (disk : Holdings) (folder : List ℕ) (files : List (List ℕ)) : Type 0 where
  pub found : List (List ℕ)
  pub holds : HoldsFiles disk folder found
  pub same : (path : List ℕ) → Contains files path ↔ Contains found path
  pub rises : IsStrictlySortedBy (slice_cmp nat_cmp) files

-- by the kind of what is at the path: the file itself, or all files below the folder
abbrev pub AreFilesOf : Holdings → List ℕ → Kind → List (List ℕ) → Type 0
AreFilesOf disk path File files = files ≡ path ∷ []
AreFilesOf disk path Folder files = AreBelow disk path files

-- the files at or below a path
abbrev pub AreFilesAt : Holdings → List ℕ → List (List ℕ) → Type 0
AreFilesAt disk path files = (kind : Kind) × disk.kind path kind × AreFilesOf disk path kind files

-- all files at or below each path, path by path
pub data AreFilesAtEach (disk : Holdings) : List (List ℕ) → List (List ℕ) → Type 0 where
  no_path : AreFilesAtEach disk [] []
  and_path : {paths files : List (List ℕ)} → AreFilesAtEach disk paths files → (path : List ℕ)
      → {more : List (List ℕ)} → AreFilesAt disk path more
      → AreFilesAtEach disk (paths ++ path ∷ []) (files ++ more)
