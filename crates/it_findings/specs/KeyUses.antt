-- The keys that a policy lists, with their holders: owners and builders (this profile's choice).
use Rattle.std.specs.Prelude.{◌≡◌, ◌≢◌, ℕ, List, [], ◌∷◌, Option, Some, None, codes}
use Rattle.std.specs.FinMap.{entries}
use Rattle.it_dsse.specs.declared.key_object.KeyObject.{KeyObject}
use Rattle.it_docs.specs.declared.policy.Builder.{Builder}
use Rattle.it_docs.specs.declared.policy.Expectation.{Expectation}
use Rattle.it_findings.specs.Joined.{Joined, JoinedEach}
use Rattle.it_findings.specs.KeyIdentities.{HasIdentity}
use Rattle.it_findings.specs.KeyPlaces.{key_place}
use Rattle.it_findings.specs.declared.key_use.KeyUse.{KeyUse}
use Rattle.it_findings.specs.declared.listed_key.ListedKey.{ListedKey}
use Rattle.it_findings.specs.declared.listed_key.ListedKey.TheVariants.{Identity, Public}
use Rattle.it_findings.specs.declared.null_key.KeyList.{KeyList}
use Rattle.it_findings.specs.declared.null_key.KeyList.TheVariants as lists
use Rattle.it_findings.specs.declared.shared_key.Holder.{Holder}
use Rattle.it_findings.specs.declared.shared_key.Holder.TheVariants as holders

-- the object describes a public key: its public part is not empty, and its scheme is not the one
-- of secrets, whose keys are in rings
pub record HasPublic (object : KeyObject) : Type 0 where
  pub some : object.public ≢ []
  pub other : object.scheme ≢ codes "hmac-sha256"

-- the key of an object: its identity where it describes one, and otherwise its public key, if any
abbrev pub IsKeyIn : KeyObject → Option ListedKey → Type 0
IsKeyIn object (Some (Identity identity issuer)) =
    HasIdentity object × (identity ≡ object.identity) × (issuer ≡ object.issuer)
IsKeyIn object (Some (Public public)) =
    (¬ HasIdentity object) × HasPublic object × (public ≡ object.public)
IsKeyIn object None = (¬ HasIdentity object) × (¬ HasPublic object)

-- the key, if there is one, at a place, with its holder
abbrev pub uses_of : KeyList → Holder → List ℕ → Option ListedKey → List KeyUse
uses_of list holder id None = []
uses_of list holder id (Some key) =
    (record { place = key_place list id; holder = holder; key = key }) ∷ []

-- the key, if the object has one, under an id of a list of key objects
abbrev pub KeyUses : KeyList → Holder → List ℕ × KeyObject → List KeyUse → Type 0
KeyUses list holder entry uses =
    (key : Option ListedKey) × IsKeyIn entry.1 key × (uses ≡ uses_of list holder entry.0 key)

-- that of an owner
abbrev pub OwnerUses : List ℕ × KeyObject → List KeyUse → Type 0
OwnerUses entry uses = KeyUses lists.Owners (holders.Owner entry.0) entry uses

-- those of the builder at a place of the expectation at another, in the order of their ids
abbrev pub BuilderUses : ℕ → ℕ → Builder → List KeyUse → Type 0
BuilderUses expectation place builder uses =
    JoinedEach (KeyUses (lists.OfBuilder expectation place)
    (holders.Builder builder.id builder.level))
    (entries builder.keys) uses

-- those of the builders of the expectation at a place, in their order
abbrev pub ExpectationUses : ℕ → Expectation → List KeyUse → Type 0
ExpectationUses place expectation uses = Joined (BuilderUses place) expectation.builders uses
