-- Which builders can have signed an envelope, by the hints of its signatures (DSSE v1.0,
-- "Protocol"). Nothing that is trusted stands here.
use Rattle.std.specs.Prelude.{◌≡◌, ℕ, List, Some, Any, Contains, IsTrue}
use Rattle.std.specs.Borrow.{Bor}
use Rattle.std.specs.FinMap.{get}
use Rattle.std.specs.List.{slice_get}
use Rattle.it_base.specs.Table.{Named}
use Rattle.it_dsse.specs.Signed.{is_admitted}
use Rattle.it_dsse.specs.declared.envelope.Envelope.{Envelope}
use Rattle.it_dsse.specs.declared.key_object.KeyObject.{KeyObject}
use Rattle.it_docs.specs.declared.policy.Builder.{Builder}
use Rattle.it_docs.specs.declared.policy.Expectation.{Expectation}
use Rattle.it_places.specs.Places.{IsUnder}
use Rattle.it_places.specs.declared.places.Places.{Places}
use Rattle.it_prov.specs.declared.builders_by_id.BuildersById.{BuildersById}
use Rattle.it_prov.specs.inside.Distinct.{AreAsked}

-- some signature of the envelope is admitted for an id under which the builder has a key
pub record CanSign (envelope : Envelope) (builder : Builder) : Type 0 where
  pub id : List ℕ
  pub object : KeyObject
  pub is_key : get builder.keys id ≡ Some object
  pub admitted : Any (λ signature. IsTrue (is_admitted id signature)) envelope.signatures

-- a place is under the ids of these keys
abbrev pub IsUnderIds : Places → Named KeyObject → ℕ → Type 0
IsUnderIds ids keys place =
    (id : List ℕ) (object : KeyObject) → get keys id ≡ Some object → IsUnder ids id place

-- the place of each builder is under the ids of its keys
abbrev pub AreUnderIds : List (Bor Builder) → Places → Type 0
AreUnderIds builders ids =
    (place : ℕ) (builder : Bor Builder) → slice_get builders place ≡ Some builder
    → IsUnderIds ids builder.now.keys place

-- for each builder of each expectation one is asked, which is found by the ids of its keys
pub record AreAskedById (expectations : List Expectation) (distinct : BuildersById)
    (lists : List (List ℕ)) : Type 0 where
  pub asked : AreAsked expectations distinct.builders.items lists
  pub listed : AreUnderIds distinct.builders.items distinct.ids

-- among these places is that of each builder that can have signed the envelope
abbrev pub ArePossible : Envelope → List (Bor Builder) → List ℕ → Type 0
ArePossible envelope builders places =
    (place : ℕ) (builder : Bor Builder) → slice_get builders place ≡ Some builder
    → CanSign envelope builder.now → Contains places place
