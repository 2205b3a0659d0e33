-- What is found in key objects that describe identities, or are meant to (that something is found,
-- and what, is a word of this project).
use Rattle.std.specs.Prelude.{◌≡◌, ℕ, List, ◌++◌, ⊤, codes}
use Rattle.std.specs.FinMap.{entries}
use Rattle.it_base.specs.Table.{Named}
use Rattle.it_dsse.specs.declared.key_object.KeyObject.{KeyObject}
use Rattle.it_docs.specs.declared.layout.Layout.{Layout}
use Rattle.it_docs.specs.declared.policy.Builder.{Builder}
use Rattle.it_docs.specs.declared.policy.Expectation.{Expectation}
use Rattle.it_docs.specs.declared.policy.Policy.{Policy}
use Rattle.it_findings.specs.Joined.{Joined, JoinedEach, Said}
use Rattle.it_findings.specs.KeyIdentities.{HasIdentity}
use Rattle.it_findings.specs.KeyPlaces.{key_place}
use Rattle.it_findings.specs.declared.finding.Finding.{Finding}
use Rattle.it_findings.specs.declared.finding.Finding.TheVariants as findings
use Rattle.it_findings.specs.declared.null_key.KeyList.{KeyList}
use Rattle.it_findings.specs.declared.null_key.KeyList.TheVariants.{OfBuilder, OfLayout, Owners}

-- whether the keys of a list sign layouts or links: those of builders sign provenance alone
abbrev pub SignsDocuments : KeyList → Type 0
SignsDocuments Owners = ⊤
SignsDocuments (OfBuilder expectation builder) = ⊥
SignsDocuments OfLayout = ⊤

-- the object has the scheme of identities, and describes none: its identity or its issuer is
-- missing, empty or too long
pub record IsIncomplete (object : KeyObject) : Type 0 where
  pub scheme : object.scheme ≡ codes "Fulcio"
  pub none : ¬ HasIdentity object

-- what is found in the key object under an id of a list: it describes an identity, whose signatures
-- on layouts and links are in lines of provenance alone; or it is incomplete
pub record KeyFindings (list : KeyList) (entry : List ℕ × KeyObject) (found : List Finding)
    : Type 0 where
  pub of_identity : List Finding
  pub of_incomplete : List Finding
  pub found_are : found ≡ of_identity ++ of_incomplete
  pub identity : Said (SignsDocuments list × HasIdentity entry.1)
      (findings.IdentityKey (key_place list entry.0)) of_identity
  pub incomplete : Said (IsIncomplete entry.1)
      (findings.IncompleteIdentity (key_place list entry.0)) of_incomplete

-- what is found in a list of key objects, in the order of the bytes of their ids
abbrev pub KeyListFindings : KeyList → Named KeyObject → List Finding → Type 0
KeyListFindings list keys found = JoinedEach (KeyFindings list) (entries keys) found

-- what is found in the keys of the builder at a place of the expectation at another
abbrev pub BuilderKeyFindings : ℕ → ℕ → Builder → List Finding → Type 0
BuilderKeyFindings expectation place builder found =
    KeyListFindings (OfBuilder expectation place) builder.keys found

-- what is found in the builders of the expectation at a place, in their order
abbrev pub ExpectationKeyFindings : ℕ → Expectation → List Finding → Type 0
ExpectationKeyFindings place expectation found =
    Joined (BuilderKeyFindings place) expectation.builders found

-- what is found in a policy: in its owners, and then in the builders of each expectation in order
pub record PolicyIdentities (policy : Policy) (found : List Finding) : Type 0 where
  pub of_owners : List Finding
  pub of_builders : List Finding
  pub found_are : found ≡ of_owners ++ of_builders
  pub owners : KeyListFindings Owners policy.owners of_owners
  pub builders : Joined ExpectationKeyFindings policy.expectations of_builders

-- what is found in a layout: in its keys
abbrev pub LayoutIdentities : Layout → List Finding → Type 0
LayoutIdentities layout found = KeyListFindings OfLayout layout.keys found
