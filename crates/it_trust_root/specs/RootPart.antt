-- The first part of a trusted root that fails, in the order of the parts.
use Rattle.std.specs.Prelude.{◌≡◌, ℕ, ◌+◌, List, None, MatchOption, IsTrue, is_some, codes}
use Rattle.serde_json.specs.Data.{Data}
use Rattle.serde_json.specs.Find.{as_object, get_item}
use Rattle.it_base.specs.Document.{OfDocument}
use Rattle.it_base.specs.List.{IsListOrMissing, PartItemReads, items_at}
use Rattle.it_docs.specs.FirstPart.{IsFirstPart}
use Rattle.it_trust_root.specs.Authority.{IsAuthority}
use Rattle.it_trust_root.specs.Log.{IsRootLog}
use Rattle.it_trust_root.specs.Root.{IsMediaType}
use Rattle.it_trust_root.specs.declared.root_part.ListPart.{ListPart}
use Rattle.it_trust_root.specs.declared.root_part.ListPart.TheVariants.{Whole, Element, Count}
use Rattle.it_trust_root.specs.declared.root_part.RootList.{RootList}
use Rattle.it_trust_root.specs.declared.root_part.RootList.TheVariants.{Logs, Authorities}
use Rattle.it_trust_root.specs.declared.root_part.RootList.TheVariants.{CertificateLogs}
use Rattle.it_trust_root.specs.declared.root_part.RootPart.{RootPart}
use Rattle.it_trust_root.specs.declared.root_part.RootPart.TheVariants.{Json, MediaType, In}

-- the names of the lists
abbrev pub name_of : RootList → List ℕ
name_of Logs = codes "tlogs"
name_of Authorities = codes "certificateAuthorities"
name_of CertificateLogs = codes "ctlogs"

-- the parts of a list in their order, from a row on; elements are in the order of their numbers
abbrev pub list_place : ℕ → ListPart → ℕ × ℕ
list_place row Whole = (row, 0)
list_place row (Element n) = (row + 1, n)
list_place row Count = (row + 2, 0)

-- the first row of each list
abbrev pub row_of : RootList → ℕ
row_of Logs = 2
row_of Authorities = 5
row_of CertificateLogs = 8

-- the parts in their order
abbrev pub place : RootPart → ℕ × ℕ
place Json = (0, 0)
place MediaType = (1, 0)
place (In list part) = list_place (row_of list) part

-- what a part of a list must be: it is a list or missing, of such values, with no element at
-- place 64
abbrev pub ListReads : {X : Type 0} → (Data → X → Type 0) → List ℕ → Data → ListPart → Type 0
ListReads P name d Whole = IsListOrMissing name d
ListReads P name d (Element n) = PartItemReads P name d n
ListReads P name d Count =
    MatchOption (items_at name d) (Unit {0}) (λ items. get_item 64 items ≡ None)

-- what a part of a document must be
abbrev pub PartReads : Data → RootPart → Type 0
PartReads d Json = IsTrue (is_some (as_object d))
PartReads d MediaType = IsMediaType d
PartReads d (In Logs part) = ListReads IsRootLog (codes "tlogs") d part
PartReads d (In Authorities part) =
    ListReads IsAuthority (codes "certificateAuthorities") d part
PartReads d (In CertificateLogs part) = ListReads IsRootLog (codes "ctlogs") d part

-- the bytes are a document in which this part reads
abbrev pub Reads : List ℕ → RootPart → Type 0
Reads = OfDocument PartReads

-- the first part of the bytes that fails
abbrev pub RootPartOf : List ℕ → RootPart → Type 0
RootPartOf bytes = IsFirstPart place (Reads bytes)
