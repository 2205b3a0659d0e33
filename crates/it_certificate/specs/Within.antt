-- Values that lie in elements.
use Rattle.std.specs.Prelude.{ℕ, List, Option, Some, None, ⊤}
use Rattle.it_der.specs.Element.{IsElement, AreElements, Tagged}

-- the bytes are an element of this tag and nothing else, whose content is such a value
pub record Wraps {X : Type 0} (tag : ℕ) (Is : List ℕ → X → Type 0) (bytes : List ℕ) (x : X)
    : Type 0 where
  pub content : List ℕ
  pub whole : IsElement bytes tag content
  pub says : Is content x

-- the bytes are elements, one after another, which are such a value
pub record Lists {X : Type 0} (Are : List Tagged → X → Type 0) (bytes : List ℕ) (x : X)
    : Type 0 where
  pub elements : List Tagged
  pub are : AreElements bytes elements
  pub says : Are elements x

-- what may be missing is missing, or is such a value
abbrev pub IfThere : {X : Type 0} → (List ℕ → X → Type 0) → Option (List ℕ) → Option X → Type 0
IfThere Is None None = ⊤
IfThere Is None (Some x) = ⊥
IfThere Is (Some value) None = ⊥
IfThere Is (Some value) (Some x) = Is value x
