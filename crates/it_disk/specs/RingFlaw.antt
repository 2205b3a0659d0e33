-- What keeps bytes from being a ring, as a note says it (a word of this project).
use Rattle.std.specs.Prelude.{◌≡◌, ℕ, ◌+◌, ◌<◌, List, Some, None, codes}
use Rattle.serde_json.specs.Data.{Data, Items}
use Rattle.serde_json.specs.Events.{items_len}
use Rattle.serde_json.specs.Find.{as_array, as_object, get_item}
use Rattle.it_base.specs.Document.{IsDocument, OfDocument}
use Rattle.it_base.specs.HexadecimalText.{IsHexadecimal}
use Rattle.it_base.specs.Parts.{IsPart}
use Rattle.it_base.specs.Text.{IsText}
use Rattle.it_disk.specs.declared.ring_flaw.EntryFlaw.{EntryFlaw}
use Rattle.it_disk.specs.declared.ring_flaw.EntryFlaw.TheVariants.{NoObject, NoId, NoSecret}
use Rattle.it_disk.specs.declared.ring_flaw.RingFlaw.{RingFlaw}
use Rattle.it_disk.specs.declared.ring_flaw.RingFlaw.TheVariants.{
  NoDocument,
  NoList,
  TooMany,
  NoEntry,
  Repeats,
  Other,
}

-- the item has this flaw: it is no object, or has no such text under `id` or `secret`
abbrev pub IsEntryFlaw : Data → EntryFlaw → Type 0
IsEntryFlaw item NoObject = as_object item ≡ None
IsEntryFlaw item NoId = (id : List ℕ) → ¬ IsPart IsText (codes "id") item id
IsEntryFlaw item NoSecret =
    (secret : List ℕ) → ¬ IsPart IsHexadecimal (codes "secret") item secret

-- the item at a place, counted from 1, has this flaw
pub record IsFlawAt (items : Items) (place : ℕ) (flaw : EntryFlaw) : Type 0 where
  pub before : ℕ
  pub place_is : place ≡ before + 1
  pub item : Data
  pub is_item : get_item before items ≡ Some item
  pub is_flaw : IsEntryFlaw item flaw

-- the items of a list have this flaw. Nothing is claimed here of a repeated id, or by `Other`.
abbrev pub IsItemsFlaw : Items → RingFlaw → Type 0
IsItemsFlaw items NoDocument = ⊥
IsItemsFlaw items NoList = ⊥
IsItemsFlaw items TooMany = 65536 < items_len items
IsItemsFlaw items (NoEntry place flaw) = IsFlawAt items place flaw
IsItemsFlaw items (Repeats place id) = Unit {0}
IsItemsFlaw items Other = Unit {0}

-- a document has this flaw
abbrev pub IsDocumentFlaw : Data → RingFlaw → Type 0
IsDocumentFlaw d NoDocument = ⊥
IsDocumentFlaw d NoList = as_array d ≡ None
IsDocumentFlaw d flaw = (items : Items) × (as_array d ≡ Some items) × IsItemsFlaw items flaw

-- the bytes have this flaw
abbrev pub IsRingFlaw : List ℕ → RingFlaw → Type 0
IsRingFlaw bytes NoDocument = (d : Data) → ¬ IsDocument bytes d
IsRingFlaw bytes flaw = OfDocument IsDocumentFlaw bytes flaw
