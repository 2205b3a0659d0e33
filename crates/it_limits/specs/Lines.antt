-- The lines of a provenance that are looked at where public keys are checked (this profile's
-- choice).
use Rattle.std.specs.Prelude.{ℕ, ◌+◌, List, [], ◌∷◌, ◌++◌, length}
use Rattle.it_limits.specs.Limit.{IsOverLimit, IsWithinLimit}
use Rattle.it_limits.specs.declared.lines.LineOver.{LineOver}

-- which of the lines are looked at, and which are left out: a line within the limit stays as it is,
-- and an empty one replaces any other, whose number counts from 1
pub data AreWithin : List (List ℕ) → List (List ℕ) → List LineOver → Type 0 where
  no_line : AreWithin [] [] []
  stays : {lines kept : List (List ℕ)} {left_out : List LineOver} {line : List ℕ}
      → AreWithin lines kept left_out → IsWithinLimit line
      → AreWithin (lines ++ line ∷ []) (kept ++ line ∷ []) left_out
  is_left_out : {lines kept : List (List ℕ)} {left_out : List LineOver} {line : List ℕ} {count : ℕ}
      → AreWithin lines kept left_out → IsOverLimit line count
      → AreWithin (lines ++ line ∷ []) (kept ++ [] ∷ [])
      (left_out ++ record { line = length lines + 1; signatures = count } ∷ [])
