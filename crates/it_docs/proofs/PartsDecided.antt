-- A document that is read part by part, up to the first part that fails.
use Rattle.std.proofs.Common.{◌≡◌, ℕ, List, Option, Some, None, MatchOption, Result, Ok, Err}
use Rattle.std.proofs.Common.{MatchResult, inl, inr, arith, refl, subst}
use Rattle.serde_json.specs.Data.{Data}
use Rattle.it_base.specs.Document.{IsDocument, OfDocument}
use Rattle.it_base.specs.Finds.{Finds}
use Rattle.it_base.proofs.Decided.{document_of, document_reads}
use Rattle.it_docs.specs.FirstPart.{Precedes}

-- what follows where a list is read, and a fault where it is not
abbrev pub or_place_fault : {X R E : Type 0} → Result X (Option ℕ) → E → (ℕ → E) → (X → Result R E)
    → Result R E
or_place_fault (Ok xs) no_list no_item next = next xs
or_place_fault (Err None) no_list no_item next = Err no_list
or_place_fault (Err (Some n)) no_list no_item next = Err (no_item n)

-- the document that bytes are
abbrev pub data_of : List ℕ → Option Data
data_of bytes = document_of Some bytes

pub or_place_fault-is : {X R E : Type 0} (P : X → Type 0) (Good : R → Type 0) (Bad : E → Type 0)
    (NoList : Type 0) (NoItem : ℕ → Type 0) (read : Result X (Option ℕ)) (no_list : E)
    (no_item : ℕ → E) (next : X → Result R E)
    → MatchResult read P (λ place. MatchOption place NoList NoItem)
    → (NoList → Bad no_list) → ((n : ℕ) → NoItem n → Bad (no_item n))
    → ((x : X) → P x → MatchResult (next x) Good Bad)
    → MatchResult (or_place_fault read no_list no_item next) Good Bad
or_place_fault-is P Good Bad NoList NoItem (Ok x) no_list no_item next h list item good = good x h
or_place_fault-is P Good Bad NoList NoItem (Err None) no_list no_item next h list item good = list h
or_place_fault-is P Good Bad NoList NoItem (Err (Some n)) no_list no_item next h list item good =
    item n h

pub data_of-finds : (bytes : List ℕ) → Finds (IsDocument bytes) (data_of bytes)
data_of-finds bytes = go (data_of bytes) (document_reads (λ d e. d ≡ e) Some (λ d. refl) bytes)
  where
    go : (found : Option Data) → Finds (OfDocument (λ d e. d ≡ e) bytes) found
        → Finds (IsDocument bytes) found
    go None h = λ d is. h d (d, is, refl)
    go (Some d) h = subst (IsDocument bytes) h.2 h.1

-- nothing stands before the first place
pub nothing_first : (at : ℕ × ℕ) → ¬ Precedes at (0, 0)
nothing_first at (inl h) = absurd (omega arith)
nothing_first at (inr h) = absurd (omega (arith, h.1))
