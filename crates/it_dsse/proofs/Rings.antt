-- Which ring a document is.
use Rattle.std.proofs.Common.{◌≡◌, ℕ, List, ap, ◌∙◌, codes}
use Rattle.it_base.specs.Document.{OfDocument}
use Rattle.it_base.specs.HexadecimalText.{IsHexadecimal}
use Rattle.it_base.specs.Sequence.{IsList}
use Rattle.it_base.specs.Text.{IsText}
use Rattle.it_base.proofs.Unique.{IsUnique, hexadecimal_same, list_same, of_document_same}
use Rattle.it_base.proofs.Unique.{part_same, text_same}
use Rattle.it_dsse.specs.Ring.{IsRingEntry}
use Rattle.it_dsse.specs.declared.ring_entry.RingEntry.{RingEntry}

abbrev entry_with : List ℕ → List ℕ → RingEntry
entry_with i s = record { id = i; secret = s }

same_entry : IsUnique IsRingEntry
same_entry d a b h k =
    let ids : a.id ≡ b.id = part_same IsText text_same (codes "id") d a.id b.id h.id k.id in
    let secrets : a.secret ≡ b.secret = part_same IsHexadecimal hexadecimal_same (codes "secret") d
    a.secret b.secret h.secret k.secret in
    ap (λ i. entry_with i a.secret) ids ∙ ap (entry_with b.id) secrets

-- the bytes are one list of entries at most
pub same_entries : (bytes : List ℕ) (xs ys : List RingEntry)
    → OfDocument (IsList IsRingEntry) bytes xs → OfDocument (IsList IsRingEntry) bytes ys → xs ≡ ys
same_entries = of_document_same (IsList IsRingEntry) (list_same IsRingEntry same_entry)
