-- Places in a list, under texts (words of this project).
use Rattle.std.specs.Prelude.{◌≡◌, ◌⊎◌, ◌↔◌, ℕ, List, Some, Contains}
use Rattle.std.specs.BTreeMap.{get_by}
use Rattle.std.specs.Cmp.Lexicographic.{slice_cmp}
use Rattle.std.specs.Ordering.{nat_cmp}
use Rattle.std.specs.declared.alloc.Global.{Global}
use Rattle.std.specs.declared.vec.Vec.{Vec}
use Rattle.it_places.specs.declared.places.Places.{Places}

-- a place is among those under a text
pub record IsUnder (places : Places) (text : List ℕ) (place : ℕ) : Type 0 where
  pub found : Vec ℕ Global
  pub stands : get_by (λ key. slice_cmp nat_cmp text key.now) places.by_text ≡ Some found
  pub has : Contains found.items place

-- a place was put under a text, and nothing else changed
abbrev pub IsPut : List ℕ → ℕ → Places → Places → Type 0
IsPut text place old new =
    (other : List ℕ) (p : ℕ)
    → IsUnder new other p ↔ (IsUnder old other p ⊎ ((other ≡ text) × (p ≡ place)))
