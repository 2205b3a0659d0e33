-- Why a document is no trusted root, as the functions that read its parts report it.
use Rattle.std.specs.Prelude.{◌≡◌}
use Rattle.serde_json.specs.Data.{Data}
use Rattle.it_docs.specs.FirstPart.{IsFirstPart}
use Rattle.it_trust_root.specs.RootPart.{ListReads, PartReads, list_place, name_of, place}
use Rattle.it_trust_root.specs.declared.root_part.RootFault.{RootFault}
use Rattle.it_trust_root.specs.declared.root_part.RootFault.TheVariants.{BadRoot, OutOfMemory}
use Rattle.it_trust_root.specs.declared.root_part.RootList.{RootList}
use Rattle.it_trust_root.specs.declared.root_part.RootPart.TheVariants.{Json, MediaType, In}

-- why a list of a document cannot be read
abbrev pub IsFaultIn : {X : Type 0} → (Data → X → Type 0) → RootList → Data → RootFault → Type 0
IsFaultIn P list d (BadRoot (In other part)) =
    (other ≡ list) × IsFirstPart (list_place 0) (ListReads P (name_of list) d) part
IsFaultIn P list d (BadRoot Json) = ⊥
IsFaultIn P list d (BadRoot MediaType) = ⊥
IsFaultIn P list d OutOfMemory = Unit {0}

-- why a document is no trusted root
abbrev pub IsRootFault : Data → RootFault → Type 0
IsRootFault d (BadRoot part) = IsFirstPart place (PartReads d) part
IsRootFault d OutOfMemory = Unit {0}
