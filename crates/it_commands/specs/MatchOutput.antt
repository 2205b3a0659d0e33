-- Whether a pattern matches a path, as a text (this profile's choice of the text).
use Rattle.std.specs.Prelude.{◌≡◌, ◌⊎◌, ℕ, List, codes}
use Rattle.it_glob.specs.Pattern.{Matches, items_of}
use Rattle.it_outcome.specs.declared.outcome.Status.{Status}
use Rattle.it_outcome.specs.declared.outcome.Status.TheVariants.{Good, Refused}

-- the pattern matches, and the text says so
pub record SaysYes (pattern path text : List ℕ) (status : Status) : Type 0 where
  pub matches : Matches (items_of pattern) path
  pub text_is : text ≡ codes "yes\n"
  pub status_is : status ≡ Good

-- the pattern does not match, and the text says so
pub record SaysNo (pattern path text : List ℕ) (status : Status) : Type 0 where
  pub no_match : ¬ Matches (items_of pattern) path
  pub text_is : text ≡ codes "no\n"
  pub status_is : status ≡ Refused

-- what the command writes and finds
abbrev pub IsMatchOutput : List ℕ → List ℕ → List ℕ → Status → Type 0
IsMatchOutput pattern path text status =
    SaysYes pattern path text status ⊎ SaysNo pattern path text status
