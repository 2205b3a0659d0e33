-- Names that repeat.
use Rattle.std.specs.Prelude.{◌≡◌, ℕ, List, ◌∷◌, ◌++◌, true}
use Rattle.std.specs.List.{IsDistinct, list_any}
use Rattle.std.specs.Str.{bytes_eq}

-- the first name that equals an earlier one
pub record IsFirstRepeat (names : List (List ℕ)) (name : List ℕ) : Type 0 where
  pub front : List (List ℕ)
  pub rest : List (List ℕ)
  pub names_are : names ≡ front ++ name ∷ rest
  pub front_differ : IsDistinct bytes_eq front
  pub stood_before : list_any (bytes_eq name) front ≡ true
