-- When an envelope meets an expectation (SLSA v1.0, verifying artifacts; in-toto Attestation
-- Statement v1). That digest sets must agree, which parameters may be present, and that a builder
-- has the build level that the policy trusts it to reach, is this profile's choice.
use Rattle.std.specs.Prelude.{◌≡◌, ◌≤◌, ℕ, List, Some, None, Contains, IsTrue}
use Rattle.std.specs.FinMap.{get}
use Rattle.it_digest.specs.Compare.{Agree}
use Rattle.it_digest.specs.declared.compare.DigestSet.{DigestSet}
use Rattle.it_dsse.specs.Panel.{KeyNumber, Panel}
use Rattle.it_dsse.specs.Signed.{Signed}
use Rattle.it_dsse.specs.declared.envelope.Envelope.{Envelope}
use Rattle.it_dsse.specs.declared.key_object.KeyObject.{KeyObject}
use Rattle.it_base.specs.Equal.{equal}
use Rattle.it_base.specs.Json.{Json, Fields}
use Rattle.it_docs.specs.PayloadType.{in_toto_type}
use Rattle.it_docs.specs.Statement.{StatementOf}
use Rattle.it_base.specs.TreeOf.{field_at}
use Rattle.it_docs.specs.declared.policy.Builder.{Builder}
use Rattle.it_docs.specs.declared.policy.Expectation.{Expectation}
use Rattle.it_docs.specs.declared.statement.Provenance.{Provenance}
use Rattle.it_docs.specs.declared.statement.Statement.{Statement}

-- a builder signed the envelope: the panel knows the key of one of its ids, and that key signed
pub record SignedByBuilder (panel : Panel) (envelope : Envelope) (builder : Builder) : Type 0 where
  pub id : List ℕ
  pub object : KeyObject
  pub key : KeyNumber
  pub is_key : get builder.keys id ≡ Some object
  pub signed : Signed panel envelope id object key

-- the envelope's payload is a Statement with this provenance, a subject of which has the digests
pub record Attests (envelope : Envelope) (digests : DigestSet) (provenance : Provenance)
    : Type 0 where
  pub statement : Statement
  pub subject : DigestSet
  pub type_is : envelope.payload_type ≡ in_toto_type
  pub reads : StatementOf envelope.payload statement
  pub provenance_is : statement.provenance ≡ Some provenance
  pub is_subject : Contains statement.subjects subject
  pub digests_agree : Agree subject digests

-- there is a tree under a name, and it is equal to the one that is expected there
pub record StandsEqual (fields : Fields) (name : List ℕ) (expected : Json) : Type 0 where
  pub given : Json
  pub stands : field_at name fields ≡ Some given
  pub is_equal : IsTrue (equal given expected)

-- the parameters are the expected ones, and others under names that may be ignored
pub record ParametersMeet (expectation : Expectation) (parameters : Fields) : Type 0 where
  pub expected_stand : (name : List ℕ) (expected : Json)
      → field_at name expectation.parameters ≡ Some expected → StandsEqual parameters name expected
  pub others_ignored : (name : List ℕ) (given : Json) → field_at name parameters ≡ Some given
      → field_at name expectation.parameters ≡ None → Contains expectation.ignore name

-- an envelope meets an expectation for a file with these digests, in all but this builder's level
pub record MeetsBesidesLevel (panel : Panel) (expectation : Expectation) (digests : DigestSet)
    (envelope : Envelope) (builder : Builder) : Type 0 where
  pub provenance : Provenance
  pub is_expected : Contains expectation.builders builder
  pub signed : SignedByBuilder panel envelope builder
  pub attests : Attests envelope digests provenance
  pub built_by : provenance.builder ≡ builder.id
  pub build_type : provenance.build_type ≡ expectation.build_type
  pub parameters : ParametersMeet expectation provenance.parameters

-- an envelope meets an expectation for a file with these digests
pub record Meets (panel : Panel) (expectation : Expectation) (digests : DigestSet)
    (envelope : Envelope) : Type 0 where
  pub builder : Builder
  pub besides_level : MeetsBesidesLevel panel expectation digests envelope builder
  pub level_is_enough : expectation.level ≤ builder.level
