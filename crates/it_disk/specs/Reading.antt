-- What is at paths (a word of this project).
use Rattle.std.specs.Prelude.{◌≡◌, ℕ, List, [], Option, Some, None, Bool, IsTrue}
use Rattle.it_base.specs.Table.{Named}
use Rattle.it_chain.specs.Contents.{Contents}
use Rattle.it_dsse.specs.Ring.{RingOf}
use Rattle.it_dsse.specs.declared.key_object.KeyObject.{KeyObject}
use Rattle.it_dsse.specs.declared.ring_entry.RingEntry.{RingEntry}
use Rattle.it_key_commands.specs.KeysFile.{KeysOf}
use Rattle.it_limits.specs.Links.{AreFilesWithin}
use Rattle.it_trust_root.specs.Root.{RootOf}
use Rattle.it_trust_root.specs.declared.root.TrustedRoot.{TrustedRoot}
use Rattle.it_disk.specs.declared.folders.Kind.{Kind}
use Rattle.it_disk.specs.declared.listing.Listed.{Listed}

-- what is at each path. No definition can know it of a disk, so what is said of a command is said
-- for all such relations between a path and what is read there.
pub record Holdings : Type 1 where
  -- what the opened file has left to read, where that is known
  pub left : List ℕ → Option (List ℕ) → Type 0
  -- the bytes of the file
  pub file : List ℕ → List ℕ → Type 0
  -- the links of the folder, down to a depth, without those that have too many signatures where
  -- these are limited
  pub links : List ℕ → ℕ → Bool → Contents → Type 0
  -- the records in the folder, each under the name of its inspection
  pub records : List ℕ → List (List ℕ × List ℕ) → Type 0
  -- whether it is a file or a folder
  pub kind : List ℕ → Kind → Type 0
  -- all entries of the folder
  pub entries : List ℕ → List Listed → Type 0

-- any path may hold anything
abbrev pub anything : Holdings
anything = record {
  left = λ path bytes. Unit {0};
  file = λ path bytes. Unit {0};
  links = λ folder depth limited links. Unit {0};
  records = λ folder records. Unit {0};
  kind = λ path kind. Unit {0};
  entries = λ folder entries. Unit {0};
}

-- what is at the path, or nothing where no path is given
abbrev pub HoldsIfGiven : {A : Type 0} → (List ℕ → List A → Type 0) → Option (List ℕ) → List A
    → Type 0
HoldsIfGiven holds None items = items ≡ []
HoldsIfGiven holds (Some path) items = holds path items

-- the bytes are those at the path, and there are none where no path is given
abbrev pub IsGiven : (List ℕ → List ℕ → Type 0) → Option (List ℕ) → Option (List ℕ) → Type 0
IsGiven holds None None = Unit {0}
IsGiven holds None (Some bytes) = ⊥
IsGiven holds (Some path) None = ⊥
IsGiven holds (Some path) (Some bytes) = holds path bytes

-- where signatures are limited, no link has too many
abbrev pub AreLimited : Bool → Contents → Type 0
AreLimited limited links = IsTrue limited → AreFilesWithin links

-- the file at the path is these key objects under their ids
abbrev pub HoldsKeys : Holdings → List ℕ → Named KeyObject → Type 0
HoldsKeys disk path objects =
    (bytes : List ℕ) × disk.file path bytes × KeysOf bytes objects

-- the file at the path is this ring
abbrev pub HoldsRing : Holdings → List ℕ → List RingEntry → Type 0
HoldsRing disk path ring = (bytes : List ℕ) × disk.file path bytes × RingOf bytes ring

-- the file at the path is this trusted root
abbrev pub HoldsRoot : Holdings → List ℕ → TrustedRoot → Type 0
HoldsRoot disk path root = (bytes : List ℕ) × disk.file path bytes × RootOf bytes root
