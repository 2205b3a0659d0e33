-- What is found one after another.
use Rattle.std.specs.Prelude.{◌≡◌, ◌⊎◌, List, [], ◌∷◌}

-- the first of some is what is found of an element, and the rest are as they are to be
pub record BeginsWith {X Y : Type 0} (Is : X → Y → Type 0) (x : X) (AreRest : List Y → Type 0)
    (found : List Y) : Type 0 where
  pub first : Y
  pub rest : List Y
  pub found_are : found ≡ first ∷ rest
  pub first_is : Is x first
  pub rest_are : AreRest rest

-- what is found of each element, in their order; elements of which there is none are left out
abbrev pub AreFound : {X Y : Type 0} → (X → Type 0) → (X → Y → Type 0) → List X → List Y → Type 0
AreFound IsNone Is [] found = found ≡ []
AreFound IsNone Is (x ∷ xs) found =
    (IsNone x × AreFound IsNone Is xs found) ⊎ BeginsWith Is x (AreFound IsNone Is xs) found
