-- The places of patterns under their literal fronts.
use Rattle.std.proofs.Common.{◌≡◌, ℕ, List, Some}
use Rattle.std.proofs.Common.{Contains, length, take, ap, sym, subst}
use Rattle.std.proofs.Common.{◌∙◌, ◌+◌, ◌<◌, ◌≤◌, inl, inr, arith}
use Rattle.std.specs.List.{slice_get}
use Rattle.std.proofs.Math.Seq.{take-append_seam}
use Rattle.std.proofs.lemmas.Bool.{cases_lt}
use Rattle.std.proofs.lemmas.Option.{same_Some, slice_get_within}
use Rattle.it_glob.specs.Pattern.{BeginsWith, front_of, items_of}
use Rattle.it_pattern_index.specs.inside.Listed.{AreListed, IsListed, IsMeasured}
use Rattle.it_pattern_index.specs.declared.fronts.Fronts.{Fronts}

-- the part of a front's length of what begins with it
pub front_is : (path front : List ℕ) (len : ℕ) → BeginsWith path front → length front ≡ len
    → take len path ≡ front
front_is path front len begins long = ap (λ n. take n path) (sym long)
    ∙ ap (take (length front)) begins.1 ∙ take-append_seam front begins.0

-- a pattern that is measured by some lengths is measured by more
pub measured_more : (old new : List ℕ) → ((len : ℕ) → Contains old len → Contains new len)
    → (pattern : List ℕ) → IsMeasured old pattern → IsMeasured new pattern
measured_more old new kept pattern (inl plain) = inl plain
measured_more old new kept pattern (inr known) = inr (kept (length (front_of (items_of pattern))) known)

-- each pattern's place below a number is listed
abbrev pub AreListedBelow : ℕ → List (List ℕ) → Fronts → Type 0
AreListedBelow most patterns fronts =
    (place : ℕ) (pattern : List ℕ) → place < most → slice_get patterns place ≡ Some pattern
    → IsListed fronts pattern place

module _ (patterns : List (List ℕ)) where
  pub listed_none : (fronts : Fronts) → AreListedBelow 0 patterns fronts
  listed_none fronts place pattern below stands = absurd (omega (arith, below))

  pub listed_more : (i : ℕ) (pattern : List ℕ) (old new : Fronts)
      → slice_get patterns i ≡ Some pattern → AreListedBelow i patterns old
      → ((text : List ℕ) (place : ℕ) → IsListed old text place → IsListed new text place)
      → IsListed new pattern i → AreListedBelow (i + 1) patterns new
  listed_more i pattern old new here before kept listed place other below stands =
      elim (cases_lt place i) [
        | inl less ↦ kept other place (before place other less stands)
        | inr past ↦
            let same : i ≡ place = omega (arith, below, past) in
            let text : pattern ≡ other = same_Some pattern other
            (sym here ∙ ap (slice_get patterns) same ∙ stands) in
            subst (λ n. IsListed new other n) same (subst (λ t. IsListed new t i) text listed)
      ]

  pub listed_all : (most : ℕ) (fronts : Fronts) → length patterns ≤ most
      → AreListedBelow most patterns fronts → AreListed patterns fronts
  listed_all most fronts within below place pattern stands =
      let inside = slice_get_within patterns place pattern stands in
      below place pattern (omega (arith, within, inside)) stands
