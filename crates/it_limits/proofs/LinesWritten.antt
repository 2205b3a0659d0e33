-- Lines that are looked at and written, one after another.
use Rattle.std.proofs.Common.{◌≡◌, ℕ, ◌+◌, List, [], ◌∷◌, ◌++◌, ◌==◌, Bool, true, false, cond, refl}
use Rattle.std.proofs.Common.{length, sym, ◌∙◌, ap, subst, append_assoc, length-append}
use Rattle.std.proofs.Common.{arith}
use Rattle.std.specs.List.{onto_first}
use Rattle.it_base.proofs.Members.{head_same}
use Rattle.it_digest.specs.Sums.{lines_of}
use Rattle.it_limits.specs.Limit.{IsOverLimit, IsWithinLimit}
use Rattle.it_limits.specs.Lines.{AreWithin, no_line, stays, is_left_out}
use Rattle.it_limits.specs.declared.lines.LineOver.{LineOver}

-- a line with a byte more in front of it
onto_line : (byte : ℕ) (line : List ℕ) (more : List ℕ) → (byte == 10) ≡ false
    → lines_of (line ++ 10 ∷ more) ≡ line ∷ lines_of more
    → lines_of (byte ∷ (line ++ 10 ∷ more)) ≡ (byte ∷ line) ∷ lines_of more
onto_line byte line more plain ends = rw (plain, ends) refl

-- what the first of some lines is, where a byte stands in front of them
first_line : (byte : ℕ) (lines : List (List ℕ)) (line : List ℕ) (after : List (List ℕ))
    (more : List ℕ) → (byte == 10) ≡ false → onto_first byte lines ≡ line ∷ after
    → ((first : List ℕ) (others : List (List ℕ)) → lines ≡ first ∷ others
    → lines_of (first ++ 10 ∷ more) ≡ first ∷ lines_of more)
    → lines_of (line ++ 10 ∷ more) ≡ line ∷ lines_of more
first_line byte [] line after more plain is ends =
    let same : byte ∷ [] ≡ line = head_same (byte ∷ []) line [] after is in
    rw (← same) (onto_line byte [] more plain refl)
first_line byte (first ∷ others) line after more plain is ends =
    let same : byte ∷ first ≡ line = head_same (byte ∷ first) line others after is in
    rw (← same) (onto_line byte first more plain (ends first others refl))

by_first : (b : Bool) (byte : ℕ) (rest line : List ℕ) (after : List (List ℕ)) (more : List ℕ)
    → (byte == 10) ≡ b
    → cond b ([] ∷ lines_of rest) (onto_first byte (lines_of rest)) ≡ line ∷ after
    → ((first : List ℕ) (others : List (List ℕ)) → lines_of rest ≡ first ∷ others
    → lines_of (first ++ 10 ∷ more) ≡ first ∷ lines_of more)
    → lines_of (line ++ 10 ∷ more) ≡ line ∷ lines_of more
by_first true byte rest line after more feeds is ends =
    let same : [] ≡ line = head_same [] line (lines_of rest) after is in
    rw (← same) refl
by_first false byte rest line after more plain is ends =
    first_line byte (lines_of rest) line after more plain is ends

-- the first line of some bytes is a line wherever a line feed follows it
pub line_ends : (bytes line : List ℕ) (after : List (List ℕ)) (more : List ℕ)
    → lines_of bytes ≡ line ∷ after → lines_of (line ++ 10 ∷ more) ≡ line ∷ lines_of more
line_ends [] line after more is = cc
line_ends (byte ∷ rest) line after more is =
    by_first (byte == 10) byte rest line after more refl is
    (λ first others e. line_ends rest first others more e)

-- bytes that are these lines, whatever is written after them
abbrev pub AreWritten : List ℕ → List (List ℕ) → Type 0
AreWritten bytes lines = (more : List ℕ) → lines_of (bytes ++ more) ≡ lines ++ lines_of more

-- one more line is written
pub one_more_written : (bytes : List ℕ) (lines : List (List ℕ)) (line : List ℕ)
    → AreWritten bytes lines
    → ((more : List ℕ) → lines_of (line ++ 10 ∷ more) ≡ line ∷ lines_of more)
    → AreWritten ((bytes ++ line) ++ 10 ∷ []) (lines ++ line ∷ [])
one_more_written bytes lines line are ends more =
    rw (append_assoc, append_assoc, are (line ++ 10 ∷ more), ends more, append_assoc) refl

-- some lines of a provenance were looked at, and the rest is left
pub record HasLooked (provenance rest written : List ℕ) (left_out : List LineOver)
    (number : ℕ) : Type 0 where
  pub done : List (List ℕ)
  pub kept : List (List ℕ)
  pub lines_are : lines_of provenance ≡ done ++ lines_of rest
  pub within : AreWithin done kept left_out
  pub are_written : AreWritten written kept
  pub number_is : number ≡ length done

pub looked_none : (provenance : List ℕ) → HasLooked provenance provenance [] [] 0
looked_none provenance = record {
  done = [];
  kept = [];
  lines_are = refl;
  within = no_line;
  are_written = λ more. refl;
  number_is = refl;
}

module _ (provenance rest written : List ℕ) (left_out : List LineOver) (number : ℕ)
    (h : HasLooked provenance rest written left_out number) (line after : List ℕ)
    (split : lines_of rest ≡ line ∷ lines_of after) where
  all : lines_of provenance ≡ (h.done ++ line ∷ []) ++ lines_of after
  all = h.lines_are ∙ ap (λ ls. h.done ++ ls) split
      ∙ sym (append_assoc h.done (line ∷ []) (lines_of after))

  next_number : number + 1 ≡ length (h.done ++ line ∷ [])
  next_number = simp length-append (omega (arith, h.number_is))

  pub looked_kept : IsWithinLimit line
      → HasLooked provenance after ((written ++ line) ++ 10 ∷ []) left_out (number + 1)
  looked_kept is_within = record {
    done = h.done ++ line ∷ [];
    kept = h.kept ++ line ∷ [];
    lines_are = all;
    within = stays h.within is_within;
    are_written = one_more_written written h.kept line h.are_written
        (λ more. line_ends rest line (lines_of after) more split);
    number_is = next_number;
  }

  pub looked_over : (count : ℕ) → IsOverLimit line count
      → HasLooked provenance after (written ++ 10 ∷ [])
      (left_out ++ record { line = number + 1; signatures = count } ∷ []) (number + 1)
  looked_over count is_over = record {
    done = h.done ++ line ∷ [];
    kept = h.kept ++ [] ∷ [];
    lines_are = all;
    within =
        subst (λ n. AreWithin (h.done ++ line ∷ []) (h.kept ++ [] ∷ [])
        (left_out ++ record { line = n + 1; signatures = count } ∷ [])) (sym h.number_is)
        (is_left_out h.within is_over);
    are_written = λ more. rw (append_assoc, h.are_written (10 ∷ more), append_assoc) refl;
    number_is = next_number;
  }
