-- What a binary search of a set's ranges finds.
use Rattle.std.proofs.Common.{◌≡◌, ℕ, ◌-◌, ◌≤◌, ◌<◌, true, false, ◌&&◌, List, length}
use Rattle.std.proofs.Common.{get_or, leb, le-leb, arith, ap, sym, ◌∙◌, true≢false, lt_of_not-le}
use Rattle.std.specs.List.Sorted.{IsNonDecreasingBy, IsPartitionPoint}
use Rattle.std.proofs.lemmas.List.{get_or_default}
use Rattle.std.proofs.lemmas.List.Folds.{Any-from_list_any, list_any_at, list_any_none}
use Rattle.it_glob.specs.declared.ranges.Range.{Range}
use Rattle.it_glob.specs.inside.Ranges.{is_in_some, is_within}
use Rattle.it_glob.proofs.Tests.{and-Decides, same_answer, within-Decides}

module _ (ranges : List Range) (c count : ℕ)
    (point : IsPartitionPoint (λ (r : Range). leb r.first c ≡ true)
    (λ (r : Range). leb r.first c ≡ false) ranges count) where
  -- no range that begins late has the character
  begins_early : (k : ℕ) (range : Range) → k < length ranges → get_or ranges k range ≡ range
      → leb range.first c ≡ true → k < count
  begins_early k range within same early =
      lt_of_not-le (λ late. true≢false (sym early ∙ ap (λ (r : Range). leb r.first c) (sym same)
      ∙ point.1 k range late within))

  module _ (lasts : IsNonDecreasingBy (λ (r : Range). r.last) ranges) (d : Range)
      (some : 0 < count) (bound : count ≤ length ranges) where
    reaches : is_in_some ranges c ≡ true → c ≤ (get_or ranges (count - 1) d).last
    reaches h =
        let at = Any-from_list_any (is_within c) ranges h in
        let early = ((and-Decides _ _).0 at.4).0 in
        let k = begins_early at.0 at.1 at.2 at.3 early in
        let far = lasts at.0 (count - 1) at.1 (omega (arith, k)) (omega (arith, some, bound)) in
        let own = ((within-Decides c at.1).0 at.4).1 in
        let same = ap (λ (r : Range). r.last) at.3 in
        let other = ap (λ (r : Range). r.last)
        (get_or_default ranges (count - 1) at.1 d (omega (arith, some, bound))) in
        omega (arith, far, own, same, other)

    -- the last range that begins at or before the character settles the answer
    pub found_at_last : leb c (get_or ranges (count - 1) d).last ≡ is_in_some ranges c
    found_at_last = same_answer _ _
        (λ h. list_any_at (is_within c) ranges (count - 1) d (omega (arith, some, bound))
        ((and-Decides _ _).1 (point.0 (count - 1) d (omega arith) (omega (arith, some)), h)))
        (λ h. le-leb c _ (reaches h))

  -- where no range begins at or before the character, none has it
  pub found_nowhere : count ≡ 0 → is_in_some ranges c ≡ false
  found_nowhere none = list_any_none (is_within c) ranges (λ k d within.
      ap (λ b. b && leb c (get_or ranges k d).last)
      (point.1 k d (omega (arith, none)) within))
