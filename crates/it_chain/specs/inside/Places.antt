-- Places in a list, under names. Nothing here is trusted.
use Rattle.std.specs.Prelude.{◌≡◌, ◌-◌, ℕ, List, [], ◌∷◌, ◌++◌, Bool, false, nat_eq}
use Rattle.std.specs.Prelude.{if◌then◌else◌, length, slice_get}
use Rattle.std.specs.BTreeMap.{get_by_text}
use Rattle.std.specs.List.{filter_map}
use Rattle.std.specs.Option.{option_map_or}
use Rattle.std.specs.Str.{bytes_eq}
use Rattle.it_chain.specs.declared.places.Places.{Places}

-- the items at some places
abbrev pub items_at : {X : Type 0} → List X → List ℕ → List X
items_at items places = filter_map (slice_get items) places

-- the places under a name
abbrev pub places_under : Places → List ℕ → List ℕ
places_under places name =
    option_map_or (λ found. found.items) (get_by_text places.by_name name) []

-- one more place is under a name
abbrev pub IsAdded : List ℕ → ℕ → Places → Places → Type 0
IsAdded name place old new =
    (other : List ℕ)
    → places_under new other ≡
    (if bytes_eq other name then places_under old other ++ place ∷ [] else places_under old other)

-- whether a place is the last of some
abbrev pub is_last : ℕ → List ℕ → Bool
is_last place places = option_map_or (nat_eq place) (slice_get places (length places - 1)) false

-- the places, with one more at the end unless it is there already
abbrev pub with_place : List ℕ → ℕ → List ℕ
with_place places place = if is_last place places then places else places ++ place ∷ []

-- one more place is under a name, unless it was the last there
abbrev pub IsAddedOnce : List ℕ → ℕ → Places → Places → Type 0
IsAddedOnce name place old new =
    (other : List ℕ)
    → places_under new other ≡
    (if bytes_eq other name then with_place (places_under old other) place
    else places_under old other)
