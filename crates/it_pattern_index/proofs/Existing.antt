-- Some pattern is the first to match a path, or none matches.
use Rattle.std.proofs.Common.{◌∙◌, ◌⊎◌, ◌≤◌, ℕ, zero, suc, List, [], ◌∷◌, inl, inr, refl, sym, subst}
use Rattle.std.proofs.Common.{arith}
use Rattle.std.proofs.lemmas.Bool.{cases_Bool, false≢true}
use Rattle.std.proofs.lemmas.Option.{none-some, same_Some}
use Rattle.it_glob.specs.Pattern.{Matches, items_of}
use Rattle.it_glob.proofs.Decided.{is_match, is_match-Decides}
use Rattle.it_pattern_index.specs.FirstMatch.{IsFirstMatch, MatchesAt, NoneMatches}

module _ (path : List ℕ) where
  abbrev IsMatched : List ℕ → Type 0
  IsMatched pattern = Matches (items_of pattern) path

  matched_or_not : (pattern : List ℕ) → IsMatched pattern ⊎ ¬ IsMatched pattern
  matched_or_not pattern = elim (cases_Bool (is_match pattern path)) [
    | inl is ↦ inl ((is_match-Decides pattern path).0 is)
    | inr is_not ↦ inr (λ matches. false≢true
        (sym is_not ∙ (is_match-Decides pattern path).1 matches))
  ]

  module _ (pattern : List ℕ) (patterns : List (List ℕ)) where
    here : (matches : MatchesAt (pattern ∷ patterns) path 0) → IsMatched pattern
    here matches = subst IsMatched (sym (same_Some pattern matches.pattern matches.stands))
        matches.matches

    before : (n : ℕ) → MatchesAt (pattern ∷ patterns) path (suc n) → MatchesAt patterns path n
    before n matches = record {
      pattern = matches.pattern;
      stands = matches.stands;
      matches = matches.matches;
    }

    first_here : IsMatched pattern → IsFirstMatch (pattern ∷ patterns) path 0
    first_here matches = record {
      here = record { pattern = pattern; stands = refl; matches = matches };
      none_before = λ other at. omega arith;
    }

    none_before : (place : ℕ) → ¬ IsMatched pattern → IsFirstMatch patterns path place
        → (other : ℕ) → MatchesAt (pattern ∷ patterns) path other → suc place ≤ other
    none_before place quiet first zero matches = absurd (quiet (here matches))
    none_before place quiet first (suc n) matches =
        let less = first.none_before n (before n matches) in omega (arith, less)

    first_later : (place : ℕ) → ¬ IsMatched pattern → IsFirstMatch patterns path place
        → IsFirstMatch (pattern ∷ patterns) path (suc place)
    first_later place quiet first = record {
      here = record {
        pattern = first.here.pattern;
        stands = first.here.stands;
        matches = first.here.matches;
      };
      none_before = none_before place quiet first;
    }

    none_later : ¬ IsMatched pattern → NoneMatches patterns path
        → NoneMatches (pattern ∷ patterns) path
    none_later quiet none zero matches = quiet (here matches)
    none_later quiet none (suc n) matches = none n (before n matches)

  pub first_or_none : (patterns : List (List ℕ))
      → ((place : ℕ) × IsFirstMatch patterns path place) ⊎ NoneMatches patterns path
  first_or_none [] = inr (λ place matches. none-some matches.pattern matches.stands)
  first_or_none (p ∷ ps) = elim (matched_or_not p) [
    | inl matches ↦ inl (0, first_here p ps matches)
    | inr quiet ↦ elim (first_or_none ps) [
      | inl first ↦ inl (suc first.0, first_later p ps first.0 quiet first.1)
      | inr none ↦ inr (none_later p ps quiet none)
    ]
  ]
