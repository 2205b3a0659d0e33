-- The ranges of a set, as they are written and in an order in which they can be searched.
use Rattle.std.specs.Prelude.{◌≡◌, ℕ, max, Bool, ◌&&◌, ◌==◌, nat_le, if◌then◌else◌, List, [], ◌∷◌}
use Rattle.std.specs.List.{list_any}
use Rattle.std.specs.List.Sorted.{IsNonDecreasingBy}
use Rattle.std.specs.Str.{byte}
use Rattle.it_glob.specs.declared.ranges.Range.{Range}

-- the range from one character to another, both included
abbrev pub range_between : ℕ → ℕ → Range
range_between first last = record { first = first; last = last }

-- the ranges of a body in the order of its text. A character that matches only itself is a range of
-- one
abbrev pub written_ranges : List ℕ → List Range
written_ranges [] = []
written_ranges (x ∷ []) = range_between x x ∷ []
written_ranges (x ∷ y ∷ []) = range_between x x ∷ range_between y y ∷ []
written_ranges (x ∷ y ∷ z ∷ rest) =
    if y == byte "-" then range_between x z ∷ written_ranges rest
    else range_between x x ∷ written_ranges (y ∷ z ∷ rest)

-- whether a range has the character c
abbrev pub is_within : ℕ → Range → Bool
is_within c range = nat_le range.first c && nat_le c range.last

-- whether some range has the character c
abbrev pub is_in_some : List Range → ℕ → Bool
is_in_some ranges c = list_any (is_within c) ranges

-- ranges have the characters of a body and no others, and neither their first nor their last
-- characters ever fall
pub record AreSearchable (body : List ℕ) (ranges : List Range) : Type 0 where
  pub same : (c : ℕ) → is_in_some ranges c ≡ is_in_some (written_ranges body) c
  pub firsts : IsNonDecreasingBy (λ (range : Range). range.first) ranges
  pub lasts : IsNonDecreasingBy (λ (range : Range). range.last) ranges

-- ranges of which each is made to reach as far as the given character and any range before it
abbrev pub widened : ℕ → List Range → List Range
widened reach [] = []
widened reach (range ∷ ranges) =
    range_between range.first (max reach range.last) ∷ widened (max reach range.last) ranges
