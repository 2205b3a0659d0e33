-- The lines of the provenance, one after another.
use Rattle.std.proofs.Common.{◌≡◌, ℕ, ◌+◌, List, [], ◌∷◌, ◌++◌, length, sym, ap}
use Rattle.std.proofs.Common.{append_assoc, arith, ◌∙◌}
use Rattle.std.proofs.lemmas.List.{length-append}
use Rattle.std.specs.List.{slice_get}
use Rattle.it_base.proofs.Elements.{at_length}
use Rattle.it_digest.specs.Sums.{lines_of}
use Rattle.it_prov_notes.specs.ProvenanceNotes.{IsLine}

-- so many lines come before the rest
pub record Follows (provenance : List ℕ) (number : ℕ) (rest : List ℕ) : Type 0 where
  pub before : List (List ℕ)
  pub lines_are : lines_of provenance ≡ before ++ lines_of rest
  pub number_is : number ≡ length before

module _ (provenance rest line after : List ℕ) (number : ℕ)
    (so_far : Follows provenance number rest)
    (next : lines_of rest ≡ line ∷ lines_of after) where
  -- the next line stands at its number
  pub next_line : IsLine provenance (number + 1) line
  next_line = record {
    place = length so_far.before;
    stands = ap (λ lines. slice_get lines (length so_far.before))
        (so_far.lines_are ∙ ap (λ l. so_far.before ++ l) next)
        ∙ at_length so_far.before line (lines_of after);
    number_is = let same = so_far.number_is in omega (arith, same);
  }

  -- the rest follows it
  pub next_follows : Follows provenance (number + 1) after
  next_follows = record {
    before = so_far.before ++ line ∷ [];
    lines_are = so_far.lines_are ∙ ap (λ l. so_far.before ++ l) next
        ∙ sym (append_assoc so_far.before (line ∷ []) (lines_of after));
    number_is = let same = so_far.number_is in
        omega (arith, same, length-append so_far.before (line ∷ []));
  }
