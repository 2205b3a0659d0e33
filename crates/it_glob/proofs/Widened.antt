-- Ranges of which each is made to reach as far as those before it.
use Rattle.std.proofs.Common.{◌≡◌, ℕ, zero, suc, max, ◌≤◌, ◌<◌, ◌⊎◌, inl, inr, true, List, []}
use Rattle.std.proofs.Common.{◌∷◌, length, get_or, arith, refl, ap, sym, ◌∙◌, le_refl, le_trans}
use Rattle.std.proofs.Common.{IsPermutation, Bool, false, leb, leb-true, leb-false}
use Rattle.std.specs.Prelude.{⊤}
use Rattle.std.specs.List.Sorted.{IsNonDecreasingBy}
use Rattle.std.proofs.lemmas.List.Sorted.{list_any-IsPermutation}
use Rattle.it_glob.specs.declared.ranges.Range.{Range}
use Rattle.it_glob.specs.inside.Ranges.{AreSearchable, is_in_some, is_within, range_between}
use Rattle.it_glob.specs.inside.Ranges.{widened, written_ranges}
use Rattle.it_glob.proofs.Tests.{or-Decides, same_answer, within-Decides}

-- no range begins before the one before it, or the first before f
abbrev Follow : ℕ → List Range → Type 0
Follow f [] = ⊤
Follow f (r ∷ rs) = (f ≤ r.first) × Follow r.first rs

follow_from : (f : ℕ) (rs : List Range) → IsNonDecreasingBy (λ (r : Range). r.first) rs
    → ((d : Range) → 0 < length rs → f ≤ (get_or rs 0 d).first) → Follow f rs
follow_from f [] up low = tt
follow_from f (r ∷ rs) up low = (
  low r (omega arith),
  follow_from r.first rs (λ i j d l w. up (suc i) (suc j) d (omega (arith, l)) (omega (arith, w)))
      (λ d w. up 0 1 d (omega arith) (omega (arith, w))),
)

below_one : (c a b : ℕ) → c ≤ max a b → (c ≤ a) ⊎ (c ≤ b)
below_one c a b w = go (leb c a) refl
  where
    go : (t : Bool) → leb c a ≡ t → (c ≤ a) ⊎ (c ≤ b)
    go true e = inl (leb-true c a e)
    go false e = inr (omega (arith, leb-false c a e, w))

-- a character of a range that was made to reach further is in the reach from before, or in a range
-- as it was
narrower : (f reach c : ℕ) (rs : List Range) → Follow f rs → is_in_some (widened reach rs) c ≡ true
    → ((f ≤ c) × (c ≤ reach)) ⊎ (is_in_some rs c ≡ true)
narrower f reach c [] follow h = inr h
narrower f reach c (r ∷ rs) follow h =
    let wide = range_between r.first (max reach r.last) in
    let both = or-Decides (is_within c r) (is_in_some rs c) in
    let here : ((r.first ≤ c) × (c ≤ max reach r.last)) ⊎ (is_in_some rs c ≡ true) =
    elim ((or-Decides (is_within c wide) (is_in_some (widened (max reach r.last) rs) c)).0 h) [
      | inl w ↦ inl ((within-Decides c wide).0 w)
      | inr later ↦ narrower r.first (max reach r.last) c rs follow.1 later
    ] in
    elim here [
      | inl w ↦ elim (below_one c reach r.last w.1) [
        | inl near ↦ inl (le_trans follow.0 w.0, near)
        | inr own ↦ inr (both.1 (inl ((within-Decides c r).1 (w.0, own))))
      ]
      | inr later ↦ inr (both.1 (inr later))
    ]

-- and a character of a range as it was is in one that was made to reach further
wider : (reach c : ℕ) (rs : List Range) → is_in_some rs c ≡ true
    → is_in_some (widened reach rs) c ≡ true
wider reach c [] h = h
wider reach c (r ∷ rs) h =
    let wide = range_between r.first (max reach r.last) in
    let both = or-Decides (is_within c wide) (is_in_some (widened (max reach r.last) rs) c) in
    elim ((or-Decides (is_within c r) (is_in_some rs c)).0 h) [
      | inl own ↦ let w = (within-Decides c r).0 own in
          both.1 (inl ((within-Decides c wide).1 (w.0, omega (arith, w.1))))
      | inr later ↦ both.1 (inr (wider (max reach r.last) c rs later))
    ]

same_characters : (c : ℕ) (rs : List Range) → IsNonDecreasingBy (λ (r : Range). r.first) rs
    → is_in_some (widened 0 rs) c ≡ is_in_some rs c
same_characters c [] up = refl
same_characters c (r ∷ rs) up = same_answer _ _ (λ h.
    elim (narrower r.first 0 c (r ∷ rs)
    (follow_from r.first (r ∷ rs) up (λ d w. le_refl r.first)) h) [
      | inl w ↦ (or-Decides (is_within c r) (is_in_some rs c)).1
          (inl ((within-Decides c r).1 (w.0, omega (arith, w.1))))
      | inr had ↦ had
    ]) (wider 0 c (r ∷ rs))

length-widened : (reach : ℕ) (rs : List Range) → length (widened reach rs) ≡ length rs
length-widened reach [] = refl
length-widened reach (r ∷ rs) = ap suc (length-widened (max reach r.last) rs)

first-widened : (reach : ℕ) (rs : List Range) (i : ℕ) (d : Range)
    → (get_or (widened reach rs) i d).first ≡ (get_or rs i d).first
first-widened reach [] i d = refl
first-widened reach (r ∷ rs) zero d = refl
first-widened reach (r ∷ rs) (suc i) d = first-widened (max reach r.last) rs i d

firsts_rise : (reach : ℕ) (rs : List Range) → IsNonDecreasingBy (λ (r : Range). r.first) rs
    → IsNonDecreasingBy (λ (r : Range). r.first) (widened reach rs)
firsts_rise reach rs up i j d l w = rw (first-widened reach rs i d, first-widened reach rs j d)
    (up i j d l (omega (arith, w, length-widened reach rs)))

reach_at_most : (reach : ℕ) (rs : List Range) (j : ℕ) (d : Range) → j < length (widened reach rs)
    → reach ≤ (get_or (widened reach rs) j d).last
reach_at_most reach [] j d w = absurd (omega (arith, w))
reach_at_most reach (r ∷ rs) zero d w = omega arith
reach_at_most reach (r ∷ rs) (suc j) d w =
    let more = reach_at_most (max reach r.last) rs j d (omega (arith, w)) in
    let start : reach ≤ max reach r.last = omega arith in
    le_trans start more

lasts_rise : (reach : ℕ) (rs : List Range)
    → IsNonDecreasingBy (λ (r : Range). r.last) (widened reach rs)
lasts_rise reach [] i j d l w = absurd (omega (arith, w))
lasts_rise reach (r ∷ rs) zero zero d l w = le_refl (max reach r.last)
lasts_rise reach (r ∷ rs) zero (suc j) d l w =
    reach_at_most (max reach r.last) rs j d (omega (arith, w))
lasts_rise reach (r ∷ rs) (suc i) zero d l w = absurd (omega (arith, l))
lasts_rise reach (r ∷ rs) (suc i) (suc j) d l w =
    lasts_rise (max reach r.last) rs i j d (omega (arith, l)) (omega (arith, w))

-- ranges of a body that are sorted by their first characters and then made to reach further can be
-- searched
pub searchable : (body : List ℕ) (sorted : List Range)
    → IsPermutation (written_ranges body) sorted
    → IsNonDecreasingBy (λ (r : Range). r.first) sorted → AreSearchable body (widened 0 sorted)
searchable body sorted moved up = record {
  same = λ c. same_characters c sorted up
      ∙ sym (list_any-IsPermutation (is_within c) (written_ranges body) sorted moved);
  firsts = firsts_rise 0 sorted up;
  lasts = lasts_rise 0 sorted;
}
