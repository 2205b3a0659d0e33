-- Which expectation of a policy speaks of a file (this profile's choice).
use Rattle.std.specs.Prelude.{◌≡◌, ℕ, List, ◌∷◌, ◌++◌, Some, Contains, map}
use Rattle.std.specs.List.{slice_get}
use Rattle.it_glob.specs.Pattern.{Matches, items_of}
use Rattle.it_docs.specs.declared.policy.Expectation.{Expectation}

-- an expectation's pattern matches a path
abbrev pub SpeaksOf : List ℕ → Expectation → Type 0
SpeaksOf path expectation = Matches (items_of expectation.files) path

-- the first of the expectations that speaks of a path
pub record Fits (expectations : List Expectation) (path : List ℕ) (expectation : Expectation) :
    Type 0 where
  pub front : List Expectation
  pub rest : List Expectation
  pub they_are : expectations ≡ front ++ expectation ∷ rest
  pub speaks : SpeaksOf path expectation
  pub none_before : (other : Expectation) → Contains front other → ¬ SpeaksOf path other

-- the expectation at a place is the one that fits a path
pub record FitsAt (expectations : List Expectation) (path : List ℕ) (place : ℕ) : Type 0 where
  pub expectation : Expectation
  pub stands : slice_get expectations place ≡ Some expectation
  pub fits : Fits expectations path expectation

-- the patterns of expectations
abbrev pub patterns_of : List Expectation → List (List ℕ)
patterns_of expectations = map (λ expectation. expectation.files) expectations
