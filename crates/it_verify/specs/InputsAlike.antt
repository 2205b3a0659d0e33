-- Inputs in which the same things count (specific to this project; no standard covers it).
use Rattle.std.specs.FinMap.{get}
use Rattle.std.specs.Prelude.{◌≡◌, ◌⊎◌, ℕ, List, Contains, Some, ◌↔◌}
use Rattle.it_dsse.specs.Envelope.{EnvelopeOf}
use Rattle.it_dsse.specs.Panel.{Panel}
use Rattle.it_dsse.specs.Signed.{IsSigner}
use Rattle.it_dsse.specs.declared.envelope.Envelope.{Envelope}
use Rattle.it_dsse.specs.declared.key_object.KeyObject.{KeyObject}
use Rattle.it_docs.specs.PayloadType.{in_toto_type}
use Rattle.it_docs.specs.Policy.{PolicyOf}
use Rattle.it_docs.specs.declared.policy.Builder.{Builder}
use Rattle.it_docs.specs.declared.policy.Expectation.{Expectation}
use Rattle.it_docs.specs.declared.policy.Policy.{Policy}
use Rattle.it_chain.specs.Alike.{Comparing, ChainAlike, ChainWithin}
use Rattle.it_chain.specs.CountedBodies.{Setting}
use Rattle.it_verify.specs.Documents.{Documents, ReadAs, setting_of}
use Rattle.it_verify.specs.Inspections.{record_at}
use Rattle.it_verify.specs.Provenance.{IsProvenanceLine}
use Rattle.it_verify.specs.declared.inputs.Inputs.{Inputs}

-- the layouts are envelopes with the same type and payload, signed by the same owners
pub record SameSigned (panel : Panel) (inputs other : Inputs) : Type 0 where
  pub envelope : Envelope
  pub another : Envelope
  pub first : EnvelopeOf inputs.layout envelope
  pub second : EnvelopeOf other.layout another
  pub payload_type : envelope.payload_type ≡ another.payload_type
  pub payload : envelope.payload ≡ another.payload
  pub owners : (policy : Policy) (id : List ℕ) (object : KeyObject) → PolicyOf inputs.policy policy
      → get policy.owners id ≡ Some object
      → IsSigner panel envelope object id ↔ IsSigner panel another object id

-- an id and its object are a key of some builder that the policy expects
pub record IsBuilderKey (policy : Policy) (id : List ℕ) (object : KeyObject) : Type 0 where
  pub expectation : Expectation
  pub builder : Builder
  pub is_expected : Contains policy.expectations expectation
  pub is_builder : Contains expectation.builders builder
  pub is_key : get builder.keys id ≡ Some object

-- some line of the provenance is an envelope of the in-toto type with this payload, signed by a key
pub record IsAttested (panel : Panel) (inputs : Inputs) (id : List ℕ) (object : KeyObject)
    (payload : List ℕ) : Type 0 where
  pub envelope : Envelope
  pub is_line : IsProvenanceLine inputs envelope
  pub payload_type : envelope.payload_type ≡ in_toto_type
  pub payload_is : envelope.payload ≡ payload
  pub signed : IsSigner panel envelope object id

-- policy, digest lists, moment and depth are equal, and layouts and records say the same; where
-- everything reads, the bundles compare as given, and so do the payloads that each builder's key
-- signed
pub record Compare (Bundles : Setting → ℕ → Comparing) (Compares : Type 0 → Type 0 → Type 0)
    (panel : Panel) (inputs other : Inputs) : Type 0 where
  pub policy : inputs.policy ≡ other.policy
  pub sums : inputs.sums ≡ other.sums
  pub sums512 : inputs.sums512 ≡ other.sums512
  pub moment : inputs.moment ≡ other.moment
  pub depth : inputs.depth ≡ other.depth
  pub layout : (inputs.layout ≡ other.layout) ⊎ SameSigned panel inputs other
  pub records : (name : List ℕ) → record_at name inputs ≡ record_at name other
  pub bundles : (documents : Documents) → ReadAs inputs documents
      → Bundles (setting_of panel documents) inputs.depth documents.layout inputs.links other.links
  pub provenance : (documents : Documents) (id payload : List ℕ) (object : KeyObject)
      → ReadAs inputs documents → IsBuilderKey documents.policy id object
      → Compares (IsAttested panel inputs id object payload)
      (IsAttested panel other id object payload)

-- the same things count in both inputs
abbrev pub InputsAlike : Panel → Inputs → Inputs → Type 0
InputsAlike = Compare ChainAlike (λ here there. here ↔ there)

-- what counts in the first inputs counts in the second
abbrev pub InputsWithin : Panel → Inputs → Inputs → Type 0
InputsWithin = Compare ChainWithin (λ here there. here → there)
