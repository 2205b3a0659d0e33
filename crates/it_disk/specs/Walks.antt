-- What walks through folders read, by what is at each path (this profile's choice).
use Rattle.std.specs.Prelude.{◌≡◌, ◌≢◌, ◌≤◌, ◌+◌, ◌++◌, ◌∷◌, ℕ, List, [], Option, Some, None, Bool}
use Rattle.std.specs.Prelude.{Contains, IsTrue, codes}
use Rattle.std.specs.List.{AllZip}
use Rattle.std.specs.Path.{path_join}
use Rattle.std.specs.Str.{byte}
use Rattle.it_chain.specs.Contents.{Contents, empty, with_file, with_folder}
use Rattle.it_limits.specs.Limit.{IsWithinLimit}
use Rattle.it_disk.specs.declared.folders.Kind.{Kind}
use Rattle.it_disk.specs.declared.folders.Kind.TheVariants.{File, Folder}
use Rattle.it_disk.specs.declared.listing.Listed.{Listed}

-- what is at each path, as a walk asks for it one at a time. No definition can know it of a disk.
pub record Seen : Type 1 where
  -- the bytes of the file
  pub file : List ℕ → List ℕ → Type 0
  -- the names in the folder
  pub names : List ℕ → List (List ℕ) → Type 0
  -- whether it is a file, a folder, or neither
  pub kind : List ℕ → Option Kind → Type 0

-- any path may hold anything
abbrev pub unseen : Seen
unseen = record {
  file = λ path bytes. Unit {0};
  names = λ folder names. Unit {0};
  kind = λ path kind. Unit {0};
}

-- what can be read under a name: a file, where the name ends in .link, and a folder, where it has a
-- full stop and folders are read so deep
abbrev pub IsReadable : (depth : ℕ) → (name : List ℕ) → Kind → Type 0
IsReadable depth name File = (front : List ℕ) × (name ≡ front ++ codes ".link")
IsReadable depth name Folder = (1 ≤ depth) × Contains name (byte ".")

-- what is read under a name in a folder: what is at its path, or nothing where that is something
-- else than what can be read
abbrev pub IsRead : Seen → (folder : List ℕ) → (depth : ℕ) → (name : List ℕ) → Option Kind → Type 0
IsRead seen folder depth name (Some kind) =
    seen.kind (path_join folder name) (Some kind) × IsReadable depth name kind
IsRead seen folder depth name None =
    (kind : Kind) → IsReadable depth name kind
    → (found : Option Kind) × seen.kind (path_join folder name) found × (found ≢ Some kind)

-- an entry where something is read under the name
abbrev pub entry_of : List ℕ → Option Kind → List (List ℕ × Kind)
entry_of name (Some kind) = (name, kind) ∷ []
entry_of name None = []

-- what is read of a folder with these names, in their order
pub data AreRead (seen : Seen) (folder : List ℕ) (depth : ℕ) :
    (names : List (List ℕ)) → (entries : List (List ℕ × Kind)) → Type 0 where
  no_name : AreRead seen folder depth [] []
  and_name : {names : List (List ℕ)} {entries : List (List ℕ × Kind)}
      → AreRead seen folder depth names entries → (name : List ℕ) (kind : Option Kind)
      → IsRead seen folder depth name kind
      → AreRead seen folder depth (names ++ name ∷ []) (entries ++ entry_of name kind)

-- what is read of a folder
pub record IsFolder (seen : Seen) (folder : List ℕ) (depth : ℕ) (entries : List (List ℕ × Kind)) :
    Type 0 where
  pub names : List (List ℕ)
  pub holds : seen.names folder names
  pub are_read : AreRead seen folder depth names entries

-- the links that these entries of a folder are: of each file the bytes, unless signatures are
-- limited and it has too many, and of each folder what is read of it, one level less deep
pub data HaveLinks (seen : Seen) (limited : Bool) :
    (depth : ℕ) → (folder : List ℕ) → List (List ℕ × Kind) → Contents → Type 0 where
  nothing : {depth : ℕ} {folder : List ℕ} → HaveLinks seen limited depth folder [] empty
  and_file : {depth : ℕ} {folder : List ℕ} {entries : List (List ℕ × Kind)} {links : Contents}
      → HaveLinks seen limited depth folder entries links → (name bytes : List ℕ)
      → seen.file (path_join folder name) bytes → (IsTrue limited → IsWithinLimit bytes)
      → HaveLinks seen limited depth folder (entries ++ (name, File) ∷ [])
      (with_file (record { name = name; bytes = bytes }) links)
  and_left_out : {depth : ℕ} {folder : List ℕ} {entries : List (List ℕ × Kind)} {links : Contents}
      → HaveLinks seen limited depth folder entries links → (name bytes : List ℕ)
      → seen.file (path_join folder name) bytes → IsTrue limited → ¬ IsWithinLimit bytes
      → HaveLinks seen limited depth folder (entries ++ (name, File) ∷ []) links
  and_folder : {depth : ℕ} {folder : List ℕ} {entries : List (List ℕ × Kind)} {links : Contents}
      → HaveLinks seen limited (depth + 1) folder entries links → (name : List ℕ)
      → {inner : List (List ℕ × Kind)} → IsFolder seen (path_join folder name) depth inner
      → {below : Contents} → HaveLinks seen limited depth (path_join folder name) inner below
      → HaveLinks seen limited (depth + 1) folder (entries ++ (name, Folder) ∷ [])
      (with_folder name below links)

-- the links of a folder, down to a depth
pub record AreLinks (seen : Seen) (folder : List ℕ) (depth : ℕ) (limited : Bool) (links : Contents)
    : Type 0 where
  pub entries : List (List ℕ × Kind)
  pub is_folder : IsFolder seen folder depth entries
  pub have : HaveLinks seen limited depth folder entries links

-- the record that an entry of a folder is: its bytes, under its name without .link
pub record IsRecord (seen : Seen) (folder : List ℕ) (entry : List ℕ × Kind) (made : List ℕ × List ℕ)
    : Type 0 where
  pub named : entry.0 ≡ made.0 ++ codes ".link"
  pub holds : seen.file (path_join folder entry.0) made.1

-- the records in a folder, each under the name of its inspection
pub record AreRecords (seen : Seen) (folder : List ℕ) (records : List (List ℕ × List ℕ))
    : Type 0 where
  pub entries : List (List ℕ × Kind)
  pub is_folder : IsFolder seen folder 0 entries
  pub are_records : AllZip (IsRecord seen folder) entries records

-- what a folder has under a name
pub record IsListed (seen : Seen) (folder name : List ℕ) (entry : Listed) : Type 0 where
  pub named : entry.name ≡ name
  pub is_there : seen.kind (path_join folder name) (Some entry.kind)

-- all entries of a folder
pub record AreListed (seen : Seen) (folder : List ℕ) (entries : List Listed) : Type 0 where
  pub names : List (List ℕ)
  pub holds : seen.names folder names
  pub are_listed : AllZip (IsListed seen folder) names entries
