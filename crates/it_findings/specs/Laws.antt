-- Nobody looks at other members: what is read in the objects of a policy, of a layout, of a link
-- and of a Statement depends on the members of these names alone.
use Rattle.std.specs.Prelude.{◌≡◌, ℕ, List, [], ◌∷◌, Some, Contains, codes, is_some}
use Rattle.serde_json.specs.Data.{Data}
use Rattle.serde_json.specs.Find.{as_object}
use Rattle.it_base.specs.Document.{member_at}
use Rattle.it_dsse.specs.KeyObject.{IsKeyObject, text_at}
use Rattle.it_dsse.specs.declared.key_object.KeyObject.{KeyObject}
use Rattle.it_docs.specs.Layout.{IsLayout}
use Rattle.it_docs.specs.Link.{IsLink}
use Rattle.it_docs.specs.Policy.{IsBuilderOf, IsExpectation, IsPolicy}
use Rattle.it_docs.specs.Statement.{IsProvenance, IsStatement, IsSubject}
use Rattle.it_docs.specs.Step.{IsInspection, IsStep}
use Rattle.it_findings.specs.MemberNames.{read_names}
use Rattle.it_findings.specs.declared.place.KeyPlace.{KeyPlace}
use Rattle.it_findings.specs.declared.place.Place.{Place}
use Rattle.it_findings.specs.declared.place.Place.TheVariants as places

-- two objects have the same member under each of these names
pub record AgreeOn (names : List (List ℕ)) (d e : Data) : Type 0 where
  pub both : is_some (as_object d) ≡ is_some (as_object e)
  pub same : (name : List ℕ) → Contains names name → member_at name d ≡ member_at name e

-- two objects that have the same members of these names are the same value
abbrev pub LooksOnlyAt : {X : Type 0} → List (List ℕ) → (Data → X → Type 0) → Type 0
LooksOnlyAt {X = X} names Is = (d e : Data) (x : X) → AgreeOn names d e → Is d x → Is e x

-- the same of the names that are looked at in the objects at a place
abbrev pub LooksOnlyThere : {X : Type 0} → Place → (Data → X → Type 0) → Type 0
LooksOnlyThere place Is = LooksOnlyAt (read_names place) Is

-- what a key object has of its keyval
pub record IsKeyValue (keyval : Data) (object : KeyObject) : Type 0 where
  pub public : object.public ≡ text_at (codes "public") (Some keyval)
  pub identity : object.identity ≡ text_at (codes "identity") (Some keyval)
  pub issuer : object.issuer ≡ text_at (codes "issuer") (Some keyval)

-- the names that are looked at in a link (in-toto 1.0 section 4.4), in a Statement and its subjects
-- (in-toto Attestation Statement v1), and in provenance (SLSA Provenance v1)
abbrev pub link_names : List (List ℕ)
link_names = codes "_type" ∷ codes "name" ∷ codes "materials" ∷ codes "products" ∷ []

abbrev pub statement_names : List (List ℕ)
statement_names =
    codes "_type" ∷ codes "subject" ∷ codes "predicateType" ∷ codes "predicate" ∷ []

abbrev pub subject_names : List (List ℕ)
subject_names = codes "digest" ∷ []

abbrev pub provenance_names : List (List ℕ)
provenance_names = codes "buildDefinition" ∷ codes "runDetails" ∷ []

-- in each kind of object of a policy, of a layout and of their key objects, and in the documents
-- that show how a delivery was made
pub record NobodyLooksAtMore : Type 0 where
  pub policy : LooksOnlyThere places.Policy IsPolicy
  pub expectation : (n : ℕ) → LooksOnlyThere (places.Expectation n) IsExpectation
  pub builder : (n m : ℕ) → LooksOnlyThere (places.Builder n m) IsBuilderOf
  pub layout : LooksOnlyThere places.Layout IsLayout
  pub step : (n : ℕ) → LooksOnlyThere (places.Step n) IsStep
  pub inspection : (n : ℕ) → LooksOnlyThere (places.Inspection n) IsInspection
  pub key : (key : KeyPlace) → LooksOnlyThere (places.Key key) IsKeyObject
  pub keyval : (key : KeyPlace) → LooksOnlyThere (places.KeyValue key) IsKeyValue
  pub link : LooksOnlyAt link_names IsLink
  pub statement : LooksOnlyAt statement_names IsStatement
  pub subject : LooksOnlyAt subject_names IsSubject
  pub provenance : LooksOnlyAt provenance_names IsProvenance
