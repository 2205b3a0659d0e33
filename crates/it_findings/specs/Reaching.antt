-- Lists in which something is reached (a word of this project).
use Rattle.std.specs.Prelude.{◌≡◌, List, ◌∷◌, ◌++◌, All}

-- some element of the list, with what is after it, is what is looked for, and each before it is
-- passed
pub record Reaches {X : Type 0} (Passes : X → Type 0) (Found : X → List X → Type 0) (xs : List X)
    : Type 0 where
  pub before : List X
  pub here : X
  pub after : List X
  pub list_is : xs ≡ before ++ here ∷ after
  pub passes : All Passes before
  pub is_found : Found here after
