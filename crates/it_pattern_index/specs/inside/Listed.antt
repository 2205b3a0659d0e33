-- The places of patterns under their literal fronts. Nothing here is trusted.
use Rattle.std.specs.Prelude.{◌≡◌, ◌⊎◌, ℕ, List, Some, Contains, length, map}
use Rattle.std.specs.Borrow.{Bor}
use Rattle.std.specs.List.{slice_get}
use Rattle.std.specs.Str.{IsUtf8}
use Rattle.it_glob.specs.Pattern.{Matches, front_of, items_of}
use Rattle.it_places.specs.Places.{IsUnder}
use Rattle.it_pattern_index.specs.declared.fronts.Fronts.{Fronts}

-- the texts of patterns
abbrev pub texts_of : List (Bor (List ℕ)) → List (List ℕ)
texts_of patterns = map (λ pattern. pattern.now) patterns

-- a pattern matches no path but its own text
abbrev pub MatchesItself : List ℕ → Type 0
MatchesItself pattern =
    (path : List ℕ) → IsUtf8 path → Matches (items_of pattern) path → path ≡ pattern

-- a pattern is its own front, and matches nothing else
pub record IsPlain (pattern : List ℕ) : Type 0 where
  pub whole : front_of (items_of pattern) ≡ pattern
  pub alone : MatchesItself pattern

-- the length of a pattern's front is one of these, unless the pattern is plain
abbrev pub IsMeasured : List ℕ → List ℕ → Type 0
IsMeasured lengths pattern =
    IsPlain pattern ⊎ Contains lengths (length (front_of (items_of pattern)))

-- a pattern's place is among those under its front, and the front's length is known
pub record IsListed (fronts : Fronts) (pattern : List ℕ) (place : ℕ) : Type 0 where
  pub under : IsUnder fronts.places (front_of (items_of pattern)) place
  pub measured : IsMeasured fronts.lengths.items pattern

-- each pattern's place is listed
abbrev pub AreListed : List (List ℕ) → Fronts → Type 0
AreListed patterns fronts =
    (place : ℕ) (pattern : List ℕ) → slice_get patterns place ≡ Some pattern
    → IsListed fronts pattern place
