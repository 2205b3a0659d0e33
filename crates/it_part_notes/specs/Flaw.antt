-- Why bytes are no JSON document, or where to look for that (words of this project). JSON is UTF-8
-- without a byte order mark (RFC 8259, section 8.1).
use Rattle.std.specs.Prelude.{◌≡◌, ◌⊎◌, ◌≤◌, ◌-◌, ℕ, List, [], ◌∷◌, Some, IsTrue, nat_eq}
use Rattle.std.specs.List.{slice_get, starts_with}
use Rattle.std.specs.Str.{IsUtf8}
use Rattle.serde_json.specs.Data.{Data}
use Rattle.it_base.specs.Document.{IsDocument}
use Rattle.it_part_notes.specs.SumLine.{IsLine}
use Rattle.it_part_notes.specs.declared.flaw.Flaw.{Flaw}
use Rattle.it_part_notes.specs.declared.flaw.Flaw.TheVariants as flaws
use Rattle.it_part_notes.specs.declared.flaw.Spot.{Spot}

-- the byte order mark of UTF-16, in either order, or a zero byte beside the first character
abbrev pub BeginsAsUtf16 : List ℕ → Type 0
BeginsAsUtf16 bytes = IsTrue (starts_with nat_eq bytes (0xff ∷ 0xfe ∷ []))
    ⊎ IsTrue (starts_with nat_eq bytes (0xfe ∷ 0xff ∷ []))
    ⊎ (slice_get bytes 0 ≡ Some 0)
    ⊎ (slice_get bytes 1 ≡ Some 0)

-- the first line is a document
abbrev pub FirstLineReads : List ℕ → Type 0
FirstLineReads bytes = (line : List ℕ) × (d : Data) × IsLine bytes 1 line × IsDocument line d

-- the byte stands at its place
pub record StandsAt (bytes : List ℕ) (spot : Spot) : Type 0 where
  pub line : List ℕ
  pub is_line : IsLine bytes spot.line line
  pub counted : 1 ≤ spot.column
  pub stands : slice_get line (spot.column - 1) ≡ Some spot.byte

-- what is said of the bytes is true; of their end nothing is said
abbrev pub IsFlaw : List ℕ → Flaw → Type 0
IsFlaw bytes flaws.Empty = bytes ≡ []
IsFlaw bytes flaws.ByteOrderMark = IsTrue (starts_with nat_eq bytes (0xef ∷ 0xbb ∷ 0xbf ∷ []))
IsFlaw bytes flaws.Utf16 = BeginsAsUtf16 bytes
IsFlaw bytes flaws.NotUtf8 = ¬ IsUtf8 bytes
IsFlaw bytes flaws.Lines = FirstLineReads bytes
IsFlaw bytes (flaws.Look spot) = StandsAt bytes spot
IsFlaw bytes flaws.LookAtEnd = Unit {0}
