-- Paths that are much like another one: the same but for a folder before them, letter case, or a
-- carriage return at their end (words of this project).
use Rattle.std.specs.Prelude.{◌≡◌, ◌⊎◌, ℕ, List, [], ◌∷◌, ◌++◌, Contains, codes, map}
use Rattle.std.specs.Char.{to_ascii_lowercase}
use Rattle.std.specs.FinMap.{keys}
use Rattle.it_digest.specs.Artifacts.{ArtifactMap}

-- nothing, or a folder with the slash or the backslash after it
abbrev pub IsFolder : List ℕ → Type 0
IsFolder front = (front ≡ [])
    ⊎ ((folder : List ℕ) × ((front ≡ folder ++ codes "/") ⊎ (front ≡ folder ++ codes "\\")))

-- nothing, or a carriage return
abbrev pub IsLineEnd : List ℕ → Type 0
IsLineEnd back = (back ≡ []) ⊎ (back ≡ 13 ∷ [])

-- what is left of a path without a folder before it and a carriage return at its end
pub record IsCore (path core : List ℕ) : Type 0 where
  pub front : List ℕ
  pub back : List ℕ
  pub path_is : path ≡ front ++ core ++ back
  pub is_front : IsFolder front
  pub is_back : IsLineEnd back

-- what is left of both paths is the same, whatever the case of its ASCII letters
pub record IsAlike (one other : List ℕ) : Type 0 where
  pub core : List ℕ
  pub other_core : List ℕ
  pub is_core : IsCore one core
  pub is_other_core : IsCore other other_core
  pub same : map to_ascii_lowercase core ≡ map to_ascii_lowercase other_core

-- an artifact whose path is much like this one
pub record IsNear (artifacts : ArtifactMap) (path near : List ℕ) : Type 0 where
  pub is_there : Contains (keys artifacts) near
  pub is_alike : IsAlike path near
