-- The search for the first pattern that matches a path.
use Rattle.std.proofs.Common.{◌≡◌, ◌⊎◌, ◌+◌, ◌<◌, ◌≤◌, ℕ, List, Option, Some, None, MatchOption}
use Rattle.std.proofs.Common.{Contains, inl, inr, length, take, get_or, subst, sym}
use Rattle.std.specs.List.{slice_get}
use Rattle.std.proofs.lemmas.List.{take_more}
use Rattle.std.proofs.lemmas.List.Elements.{Contains-push_cases}
use Rattle.std.proofs.lemmas.Option.{same_Some, none-some}
use Rattle.it_pattern_index.specs.FirstMatch.{IsFirstMatch, MatchesAt, NoneMatches}
use Rattle.it_pattern_index.specs.inside.Listed.{IsMeasured}
use Rattle.it_pattern_index.specs.inside.Narrowed.{IsNarrowed}

-- an element of one more is an element of those before, or the next
pub next_or_before : {X : Type 0} (xs : List X) (i : ℕ) (d x : X) → i < length xs
    → Contains (take (i + 1) xs) x → Contains (take i xs) x ⊎ (get_or xs i d ≡ x)
next_or_before xs i d x below c = Contains-push_cases (take i xs) (get_or xs i d) x
    (subst (λ ys. Contains ys x) (take_more xs i d below) c)

-- the pattern at a place is plain, or its front has one of these lengths
abbrev pub IsAskedBy : List (List ℕ) → List ℕ → ℕ → Type 0
IsAskedBy patterns lengths place = (pattern : List ℕ)
    × (slice_get patterns place ≡ Some pattern) × IsMeasured lengths pattern

module _ (patterns : List (List ℕ)) (path : List ℕ) where
  pub narrowed_by : (First Asked : ℕ → Type 0) (old new : Option ℕ)
      → IsNarrowed patterns path First old new
      → ((place : ℕ) → Asked place → MatchesAt patterns path place → First place)
      → IsNarrowed patterns path Asked old new
  narrowed_by First Asked old new narrowed each = record {
    sound = narrowed.sound;
    kept = narrowed.kept;
    reached = λ place asked matches. narrowed.reached place (each place asked matches) matches;
  }

  pub narrowed_then : (First Second Asked : ℕ → Type 0) (old now new : Option ℕ)
      → IsNarrowed patterns path First old now → IsNarrowed patterns path Second now new
      → ((place : ℕ) → Asked place → MatchesAt patterns path place → First place ⊎ Second place)
      → IsNarrowed patterns path Asked old new
  narrowed_then First Second Asked old now new first second each = record {
    sound = λ sound. second.sound (first.sound sound);
    kept = λ place up. second.kept place (first.kept place up);
    reached = λ place asked matches. elim (each place asked matches) [
      | inl before ↦ second.kept place (first.reached place before matches)
      | inr here ↦ second.reached place here matches
    ];
  }

  -- where all were asked, the first was found
  pub narrowed_all : (Asked : ℕ → Type 0) (found : Option ℕ)
      → IsNarrowed patterns path Asked None found
      → ((place : ℕ) → MatchesAt patterns path place → Asked place)
      → MatchOption found (NoneMatches patterns path) (IsFirstMatch patterns path)
  narrowed_all Asked None narrowed all = λ place matches.
      let up = narrowed.reached place (all place matches) matches in none-some up.0 up.1
  narrowed_all Asked (Some first) narrowed all = record {
    here = narrowed.sound tt;
    none_before = λ other matches.
        let up = narrowed.reached other (all other matches) matches in
        subst (λ n. n ≤ other) (sym (same_Some first up.0 up.1)) up.2;
  }
