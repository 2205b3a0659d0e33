-- What files in memory hold at their paths, by the list of the files alone (a word of this
-- project).
use Rattle.std.specs.Prelude.{◌++◌, ◌≢◌, ◌↔◌, ℕ, List, Option, Some, None, All, AllPairs, Contains}
use Rattle.std.specs.Prelude.{codes, map}
use Rattle.std.specs.Cmp.Lexicographic.{slice_cmp}
use Rattle.std.specs.List.Sorted.{IsStrictlySortedBy}
use Rattle.std.specs.Ordering.{nat_cmp}
use Rattle.std.specs.Str.{byte}
use Rattle.it_disk.specs.Reading.{Holdings}
use Rattle.it_disk.specs.Walks.{AreLinks, AreListed, AreRecords, Seen}
use Rattle.it_disk.specs.declared.folders.Kind.{Kind}
use Rattle.it_disk.specs.declared.folders.Kind.TheVariants.{File as a_file, Folder}
use Rattle.it_memory.specs.declared.file.File.{File}

-- files, each as its path and its bytes
abbrev pub files_of : List File → List (List ℕ × List ℕ)
files_of files = map (λ file. (file.path.now, file.bytes.now)) files

-- one of the files has this path and these bytes
abbrev pub HasFile : List (List ℕ × List ℕ) → List ℕ → List ℕ → Type 0
HasFile files path bytes = Contains files (path, bytes)

-- one of the files lies below the folder
pub record HasBelow (files : List (List ℕ × List ℕ)) (folder : List ℕ) : Type 0 where
  pub inside : List ℕ
  pub bytes : List ℕ
  pub has : HasFile files (folder ++ codes "/" ++ inside) bytes

-- no two of the files have one path, and none lies below another
pub record AreApart (files : List (List ℕ × List ℕ)) : Type 0 where
  pub differ : AllPairs (λ one other. one.0 ≢ other.0) files
  pub none_below : All (λ file. ¬ HasBelow files file.0) files

-- at the path is a file, or a folder below which files lie
abbrev pub HasKind : List (List ℕ × List ℕ) → List ℕ → Kind → Type 0
HasKind files path a_file = (bytes : List ℕ) × HasFile files path bytes
HasKind files path Folder = HasBelow files path

-- a folder has something under the name, which has no slash: a file, or a folder
pub record HasName (files : List (List ℕ × List ℕ)) (folder name : List ℕ) : Type 0 where
  pub no_slash : ¬ Contains name (byte "/")
  pub kind : Kind
  pub has : HasKind files (folder ++ codes "/" ++ name) kind

-- the names are all those under which the folder has something, in the order of their bytes
pub record AreNames (files : List (List ℕ × List ℕ)) (folder : List ℕ) (names : List (List ℕ)) :
    Type 0 where
  pub each : (name : List ℕ) → Contains names name ↔ HasName files folder name
  pub rise : IsStrictlySortedBy (slice_cmp nat_cmp) names

-- something is at the path, a file or a folder
abbrev pub HasKindOf : List (List ℕ × List ℕ) → List ℕ → Option Kind → Type 0
HasKindOf files path None = ⊥
HasKindOf files path (Some kind) = HasKind files path kind

-- what a walk through the files is told
abbrev pub seen_in : List (List ℕ × List ℕ) → Seen
seen_in files = record {
  file = HasFile files;
  names = AreNames files;
  kind = HasKindOf files;
}

-- what is left of an opened file is known, and a file of this path has these bytes
abbrev pub IsOpened : List (List ℕ × List ℕ) → List ℕ → Option (List ℕ) → Type 0
IsOpened files path None = ⊥
IsOpened files path (Some bytes) = HasFile files path bytes

-- what the files hold
abbrev pub in_memory : List (List ℕ × List ℕ) → Holdings
in_memory files = record {
  left = IsOpened files;
  file = HasFile files;
  links = AreLinks (seen_in files);
  records = AreRecords (seen_in files);
  kind = HasKind files;
  entries = AreListed (seen_in files);
}
