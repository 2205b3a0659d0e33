-- Which builders are asked whether they signed, one of all that have the same keys. Nothing that is
-- trusted stands here.
use Rattle.std.specs.Prelude.{◌≡◌, ◌<◌, ◌⊎◌, ◌++◌, ℕ, List, Option, Some, Contains, length}
use Rattle.std.specs.Prelude.{option_map, slice_get}
use Rattle.std.specs.Borrow.{Bor}
use Rattle.std.specs.List.{AllZip}
use Rattle.it_base.specs.Table.{Named}
use Rattle.it_dsse.specs.declared.key_object.KeyObject.{KeyObject}
use Rattle.it_docs.specs.declared.policy.Builder.{Builder}
use Rattle.it_docs.specs.declared.policy.Expectation.{Expectation}

-- the keys of the builder at a place
abbrev pub keys_at : List (Bor Builder) → ℕ → Option (Named KeyObject)
keys_at distinct place = option_map (λ builder. builder.now.keys) (slice_get distinct place)

-- at a place is a builder with the same keys as this one
abbrev pub HasSameAt : List (Bor Builder) → Builder → ℕ → Type 0
HasSameAt distinct builder place = keys_at distinct place ≡ Some builder.keys

-- at these places are builders with the same keys as these, in their order
abbrev pub HaveSameAt : List (Bor Builder) → List Builder → List ℕ → Type 0
HaveSameAt distinct = AllZip (HasSameAt distinct)

-- the same for the builders of each expectation
abbrev pub AllHaveSameAt : List (Bor Builder) → List Expectation → List (List ℕ) → Type 0
AllHaveSameAt distinct =
    AllZip (λ expectation places. HaveSameAt distinct expectation.builders places)

-- a place is in one of these lists
abbrev pub IsUsed : List (List ℕ) → ℕ → Type 0
IsUsed lists place = (places : List ℕ) × Contains lists places × Contains places place

-- for each builder of each expectation there is one at a place, with the same keys, and none
-- without need
pub record AreAsked (expectations : List Expectation) (distinct : List (Bor Builder))
    (lists : List (List ℕ)) : Type 0 where
  pub same : AllHaveSameAt distinct expectations lists
  pub used : (place : ℕ) → place < length distinct → IsUsed lists place

-- for a builder there is one at this place, which was added if there was none
pub record IsPlaced (old new : List (Bor Builder)) (builder : Builder) (place : ℕ) : Type 0 where
  pub more : List (Bor Builder)
  pub grown : new ≡ old ++ more
  pub same : HasSameAt new builder place
  pub used : (other : ℕ) → other < length new → (other < length old) ⊎ (other ≡ place)

-- the same for builders, in their order
pub record ArePlaced (old new : List (Bor Builder)) (builders : List Builder) (places : List ℕ)
    : Type 0 where
  pub more : List (Bor Builder)
  pub grown : new ≡ old ++ more
  pub same : HaveSameAt new builders places
  pub used : (other : ℕ) → other < length new → (other < length old) ⊎ Contains places other
