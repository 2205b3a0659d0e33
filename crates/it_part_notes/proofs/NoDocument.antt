-- Bytes that are no document.
use Rattle.std.proofs.Common.{◌≡◌, ℕ, List, Option, Some, None, IfSome, inl}
use Rattle.serde_json.specs.Data.{Data}
use Rattle.it_base.specs.Document.{IsDocument}
use Rattle.it_part_notes.specs.Flaw.{IsFlaw}
use Rattle.it_part_notes.specs.Members.{Looked}
use Rattle.it_part_notes.specs.PartNotes.{IsWhole, TellsPart}
use Rattle.it_part_notes.specs.declared.flaw.Flaw.{Flaw}
use Rattle.it_part_notes.specs.declared.part_note.PartNote.{PartNote}
use Rattle.it_part_notes.specs.declared.part_note.PartPlace.{PartPlace}
use Rattle.it_part_notes.specs.declared.part_note.Problem.TheVariants.{NoDocument}

-- what makes a note on a whole document true where the bytes are none
pub no_document : (bytes : List ℕ) (place : PartPlace) (members : List Looked)
    (flaw : Option Flaw) (found : Option PartNote) → ((d : Data) → ¬ IsDocument bytes d)
    → IfSome flaw (IsFlaw bytes)
    → IfSome found (λ note. (note.place ≡ place) × IsWhole note.place
    × (note.problem ≡ NoDocument flaw))
    → IfSome found (TellsPart bytes place members)
no_document bytes place members flaw None none is_flaw h = tt
no_document bytes place members flaw (Some note) none is_flaw h = (
  h.0,
  inl (record { whole = h.1; flaw = flaw; problem = h.2; is_flaw = is_flaw; none = none }),
)
