-- Lists of a document.
use Rattle.std.specs.Prelude.{List, [], ◌∷◌, MatchOption}
use Rattle.serde_json.specs.Data.{Data, Items, no_items, item}
use Rattle.serde_json.specs.Find.{as_array}

-- each item is the element at its place
abbrev pub AreEach : {X : Type 0} → (Data → X → Type 0) → Items → List X → Type 0
AreEach P no_items [] = Unit {0}
AreEach P no_items (x ∷ xs) = ⊥
AreEach P (item d ds) [] = ⊥
AreEach P (item d ds) (x ∷ xs) = P d x × AreEach P ds xs

-- the part is a list, and each of its items is the element at its place
abbrev pub IsList : {X : Type 0} → (Data → X → Type 0) → Data → List X → Type 0
IsList P d xs = MatchOption (as_array d) ⊥ (λ items. AreEach P items xs)
