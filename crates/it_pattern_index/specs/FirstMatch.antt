-- Which of many path patterns is the first to match a path (this profile's choice).
use Rattle.std.specs.Prelude.{◌≡◌, ◌≤◌, ℕ, List, Some}
use Rattle.std.specs.List.{slice_get}
use Rattle.it_glob.specs.Pattern.{Matches, items_of}

-- the pattern at a place matches a path
pub record MatchesAt (patterns : List (List ℕ)) (path : List ℕ) (place : ℕ) : Type 0 where
  pub pattern : List ℕ
  pub stands : slice_get patterns place ≡ Some pattern
  pub matches : Matches (items_of pattern) path

-- it does, and no pattern at an earlier place
pub record IsFirstMatch (patterns : List (List ℕ)) (path : List ℕ) (place : ℕ) : Type 0 where
  pub here : MatchesAt patterns path place
  pub none_before : (other : ℕ) → MatchesAt patterns path other → place ≤ other

-- no pattern matches a path
abbrev pub NoneMatches : List (List ℕ) → List ℕ → Type 0
NoneMatches patterns path = (place : ℕ) → ¬ MatchesAt patterns path place
