-- The first of some conditions that is missed, whatever they are.
use Rattle.std.proofs.Common.{◌≡◌, ◌↔◌, ℕ, ◌+◌, ◌<◌, Bool, true, false, not, IsTrue, Option, Some, None, is_some, refl, subst, arith, inl, inr}
use Rattle.std.proofs.lemmas.Bool.{cases_lt}
use Rattle.it_issued.specs.Misses.{IsFirstMissed, IsShortfall}
use Rattle.it_issued.proofs.Tests.{refused}

-- what has a place below a number is met
abbrev pub MetBelow : (S : Type 0) → (S → ℕ) → (S → Type 0) → ℕ → Type 0
MetBelow S place_of Meets n = (s : S) → place_of s < n → Meets s

-- no two have one place
abbrev pub HaveOwnPlaces : (S : Type 0) → (S → ℕ) → Type 0
HaveOwnPlaces S place_of = (s t : S) → place_of s ≡ place_of t → s ≡ t

pub none_below : (S : Type 0) (place_of : S → ℕ) (Meets : S → Type 0) → MetBelow S place_of Meets 0
none_below S place_of Meets = λ s below. absurd (omega arith)

pub one_more : (S : Type 0) (place_of : S → ℕ) (Meets : S → Type 0) → HaveOwnPlaces S place_of → (s : S) → Meets s
    → MetBelow S place_of Meets (place_of s) → MetBelow S place_of Meets (place_of s + 1)
one_more S place_of Meets own s met before = λ t below.
    elim (cases_lt (place_of t) (place_of s)) [
      | inl lt ↦ before t lt
      | inr ge ↦ subst Meets (own s t (omega arith)) met
    ]

-- a test for none tests the whole
pub whole_is : {S : Type 0} (Whole : Type 0) (Misses : S → Type 0) (o : Option S) (b : Bool) → is_some o ≡ not b → IsShortfall Whole Misses o
    → IsTrue b ↔ Whole
whole_is Whole Misses None true e is = (λ t. is, λ w. refl)
whole_is Whole Misses None false e is = absurd (cc)
whole_is Whole Misses (Some s) true e is = absurd (cc)
whole_is Whole Misses (Some s) false e is = refused Whole is.0

-- at most one condition is the first that is missed
pub one_missed : (S : Type 0) (place_of : S → ℕ) (Meets : S → Type 0) → HaveOwnPlaces S place_of → (s t : S)
    → IsFirstMissed S place_of Meets s → IsFirstMissed S place_of Meets t → s ≡ t
one_missed S place_of Meets own s t one two =
    elim (cases_lt (place_of s) (place_of t)) [
      | inl lt ↦ absurd (one.missed (two.before s lt))
      | inr ge ↦
          elim (cases_lt (place_of t) (place_of s)) [
            | inl lt ↦ absurd (two.missed (one.before t lt))
            | inr le ↦ own s t (omega arith)
          ]
    ]
