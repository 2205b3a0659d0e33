-- The search for the first pattern that matches a path. Nothing here is trusted.
use Rattle.std.specs.Prelude.{◌≡◌, ◌≤◌, ℕ, List, Option, Some, IfSome}
use Rattle.it_pattern_index.specs.FirstMatch.{MatchesAt}

-- a place was found that is at most a number
abbrev pub IsUpTo : Option ℕ → ℕ → Type 0
IsUpTo found most = (place : ℕ) × (found ≡ Some place) × (place ≤ most)

-- what was found before, after the places of which Asked holds were asked too
pub record IsNarrowed (patterns : List (List ℕ)) (path : List ℕ) (Asked : ℕ → Type 0)
    (old new : Option ℕ) : Type 0 where
  pub sound : IfSome old (MatchesAt patterns path) → IfSome new (MatchesAt patterns path)
  pub kept : (place : ℕ) → IsUpTo old place → IsUpTo new place
  pub reached : (place : ℕ) → Asked place → MatchesAt patterns path place → IsUpTo new place
