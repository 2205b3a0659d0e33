-- What a policy and a layout read as, each where it is given, with no signature looked at (a word
-- of this project).
use Rattle.std.specs.Prelude.{◌≡◌, ◌≢◌, ◌⊎◌, ℕ, List, [], Option, Some, None, IsTrue, codes}
use Rattle.std.specs.Prelude.{is_some}
use Rattle.serde_json.specs.Data.{Data}
use Rattle.serde_json.specs.Find.{as_object}
use Rattle.it_base.specs.Document.{IsDocument, member_at}
use Rattle.it_dsse.specs.Envelope.{EnvelopeOf}
use Rattle.it_dsse.specs.declared.envelope.Envelope.{Envelope}
use Rattle.it_docs.specs.Layout.{LayoutOf}
use Rattle.it_docs.specs.LayoutPart.{LayoutPartOf}
use Rattle.it_docs.specs.PayloadType.{in_toto_type}
use Rattle.it_docs.specs.Policy.{PolicyOf}
use Rattle.it_docs.specs.PolicyPart.{PolicyPartOf}
use Rattle.it_docs.specs.declared.layout_fault.LayoutPart.{LayoutPart}
use Rattle.it_docs.specs.declared.policy_fault.PolicyPart.{PolicyPart}
use Rattle.it_findings.specs.Members.{MembersOfLayout, MembersOfPolicy}
use Rattle.it_findings.specs.NoThresholds.{NoThresholdsOf}
use Rattle.it_findings.specs.NullKeys.{LayoutNulls, NullsOf, PolicyNulls}
use Rattle.it_report.specs.declared.refusal.Fault.{Fault}
use Rattle.it_report.specs.declared.refusal.Fault.TheVariants.{BadEnvelope, BadLayout, BadPolicy}
use Rattle.it_report.specs.declared.refusal.Fault.TheVariants.{WrongPayloadType}
use Rattle.it_report.specs.declared.refusal.Refusal.{Refusal}
use Rattle.it_check.specs.declared.documents.LayoutReading.{LayoutReading}
use Rattle.it_check.specs.declared.documents.LayoutReading.TheVariants as layouts
use Rattle.it_check.specs.declared.documents.PolicyReading.{PolicyReading}
use Rattle.it_check.specs.declared.documents.PolicyReading.TheVariants as policies

-- the refusal of a document as a whole, for a fault of its own
abbrev pub whole : Fault → Refusal
whole fault = record { at = []; fault = fault }

-- the bytes are a policy, with these keys that are null and with this in its members, or this
-- refuses them for the first part that fails
abbrev pub IsPolicyReading : List ℕ → PolicyReading → Type 0
IsPolicyReading bytes (policies.Read policy nulls members) =
    PolicyOf bytes policy × NullsOf PolicyNulls bytes nulls
    × MembersOfPolicy bytes members
IsPolicyReading bytes (policies.Bad refusal) =
    (part : PolicyPart) × PolicyPartOf bytes part × (refusal ≡ whole (BadPolicy part))

-- a JSON object without a payload: it is meant as a document, and not as its envelope
pub record IsBareDocument (d : Data) : Type 0 where
  pub is_object : IsTrue (is_some (as_object d))
  pub no_payload : member_at (codes "payload") d ≡ None

-- the bytes are such an object
abbrev pub IsBare : List ℕ → Type 0
IsBare bytes = (d : Data) × IsDocument bytes d × IsBareDocument d

abbrev pub IsNoEnvelope : List ℕ → Type 0
IsNoEnvelope bytes = (envelope : Envelope) → ¬ EnvelopeOf bytes envelope

-- the bytes are an envelope of the in-toto type (DSSE v1.0), and this is its payload
pub record IsPayload (bytes body : List ℕ) : Type 0 where
  pub envelope : Envelope
  pub is_envelope : EnvelopeOf bytes envelope
  pub is_type : envelope.payload_type ≡ in_toto_type
  pub body_is : body ≡ envelope.payload

-- the bytes are no envelope, and are the body themselves
pub record IsOwnBody (bytes body : List ℕ) : Type 0 where
  pub no_envelope : IsNoEnvelope bytes
  pub bare : IsBare bytes
  pub body_is : body ≡ bytes

-- the body of the layout: the payload of its envelope, or the bytes themselves
abbrev pub IsBody : List ℕ → List ℕ → Type 0
IsBody bytes body = IsPayload bytes body ⊎ IsOwnBody bytes body

-- the bytes are an envelope of another type
pub record HasOtherType (bytes : List ℕ) : Type 0 where
  pub envelope : Envelope
  pub is_envelope : EnvelopeOf bytes envelope
  pub other : envelope.payload_type ≢ in_toto_type

-- the body is a layout, with these keys that are null, these places of steps without a threshold
-- and with this in its members, or this refuses it for the first part that fails
abbrev pub IsBodyReading : List ℕ → LayoutReading → Type 0
IsBodyReading body (layouts.Read layout nulls places members) =
    LayoutOf body layout × NullsOf LayoutNulls body nulls × NoThresholdsOf body places
    × MembersOfLayout body members
IsBodyReading body (layouts.Bad refusal) =
    (part : LayoutPart) × LayoutPartOf body part × (refusal ≡ whole (BadLayout part))

-- the bytes have a body, which reads so
abbrev pub HasBodyReading : List ℕ → LayoutReading → Type 0
HasBodyReading bytes reading =
    (body : List ℕ) × IsBody bytes body × IsBodyReading body reading

-- the bytes have no body, and this refuses them: they are an envelope of another type, or no
-- envelope
abbrev pub HasNoBody : List ℕ → LayoutReading → Type 0
HasNoBody bytes reading =
    (HasOtherType bytes × (reading ≡ layouts.Bad (whole WrongPayloadType)))
    ⊎ (IsNoEnvelope bytes × (¬ IsBare bytes) × (reading ≡ layouts.Bad (whole BadEnvelope)))

-- what the bytes read as
abbrev pub IsLayoutReading : List ℕ → LayoutReading → Type 0
IsLayoutReading bytes reading = HasBodyReading bytes reading ⊎ HasNoBody bytes reading

-- what is given reads as this, and nothing is read where nothing is given
abbrev pub ReadsAs : {X : Type 0} → (List ℕ → X → Type 0) → Option (List ℕ) → Option X → Type 0
ReadsAs Reads None None = Unit {0}
ReadsAs Reads (Some bytes) (Some reading) = Reads bytes reading
ReadsAs Reads None (Some reading) = ⊥
ReadsAs Reads (Some bytes) None = ⊥
