-- Why delivered files are refused: the refusal of the first stage of a verification that fails (the
-- order of the stages is this profile's choice).
use Rattle.std.specs.FinMap.{empty, entries}
use Rattle.std.specs.Prelude.{◌≡◌, ◌≢◌, ℤ, List, [], ◌∷◌, flat_map, zip}
use Rattle.it_base.specs.Places.{IsFirst}
use Rattle.it_digest.specs.Listed.{AreListed, IsFirstBadIn}
use Rattle.it_digest.specs.declared.listed.BadLine.{BadLine}
use Rattle.it_digest.specs.declared.listed.BadLine.TheVariants.{InSha256, InSha512}
use Rattle.it_dsse.specs.Envelope.{EnvelopeOf}
use Rattle.it_dsse.specs.Panel.{Panel}
use Rattle.it_dsse.specs.declared.envelope.Envelope.{Envelope}
use Rattle.it_docs.specs.LayoutPart.{LayoutPartOf}
use Rattle.it_docs.specs.Moment.{MomentOf}
use Rattle.it_docs.specs.PayloadType.{in_toto_type}
use Rattle.it_docs.specs.Policy.{PolicyOf}
use Rattle.it_docs.specs.PolicyPart.{PolicyPartOf}
use Rattle.it_docs.specs.declared.layout_fault.LayoutPart.{LayoutPart}
use Rattle.it_docs.specs.declared.policy.Policy.{Policy}
use Rattle.it_docs.specs.declared.policy_fault.PolicyPart.{PolicyPart}
use Rattle.it_chain.specs.First.{FirstChainFailure as ChainFirst}
use Rattle.it_chain.specs.declared.refusal.ChainRefusal.{ChainRefusal}
use Rattle.it_report.specs.declared.refusal.Fault.{Fault}
use Rattle.it_report.specs.declared.refusal.Fault.TheVariants.{BadPolicy, BadSums, BadSums512}
use Rattle.it_report.specs.declared.refusal.Fault.TheVariants.{BadMoment}
use Rattle.it_report.specs.declared.refusal.Fault.TheVariants.{NoFiles, BadEnvelope}
use Rattle.it_report.specs.declared.refusal.Fault.TheVariants.{WrongPayloadType, BadLayout}
use Rattle.it_report.specs.declared.refusal.Refusal.{Refusal}
use Rattle.it_verify.specs.Delivered.{DeliverFails}
use Rattle.it_verify.specs.Documents.{Documents, ReadAs, setting_of}
use Rattle.it_verify.specs.Evidence.{Evidence, IsEvidence, evidence_links}
use Rattle.it_verify.specs.Inspections.{RecordFails, sides_of, InspectionFails}
use Rattle.it_verify.specs.Owners.{OwnerLacks}
use Rattle.it_verify.specs.Provenance.{FileFails}
use Rattle.it_verify.specs.Refusals.{whole, refusal_of}
use Rattle.it_verify.specs.declared.inputs.Inputs.{Inputs}

-- the stages of a verification, by what each looks at
pub data Stage : Type 0 where
  at_policy : Stage
  at_sums : Stage
  at_moment : Stage
  at_files : Stage
  at_envelope : Stage
  at_payload_type : Stage
  at_owners : Stage
  at_layout : Stage
  at_links : Stage
  at_records : Stage
  at_inspections : Stage
  at_deliver : Stage
  at_provenance : Stage

-- all stages in their order
abbrev pub stages : List Stage
stages =
    at_policy ∷ at_sums ∷ at_moment ∷ at_files ∷ at_envelope ∷ at_payload_type ∷ at_owners
    ∷ at_layout ∷ at_links ∷ at_records ∷ at_inspections ∷ at_deliver ∷ at_provenance ∷ []

-- what a bad line of the digest lists is called
abbrev pub line_fault : BadLine → Fault
line_fault (InSha256 line) = BadSums line
line_fault (InSha512 line) = BadSums512 line

module _ (panel : Panel) (inputs : Inputs) where
  -- a stage fails with a refusal. A stage about something that does not read, or about missing
  -- evidence, does not fail: an earlier stage does
  abbrev pub FailsAt : Stage → Refusal → Type 0
  FailsAt at_policy refusal =
      (part : PolicyPart) × PolicyPartOf inputs.policy part × (refusal ≡ whole (BadPolicy part))
  FailsAt at_sums refusal =
      (bad : BadLine) × IsFirstBadIn inputs.sums inputs.sums512 bad
      × (refusal ≡ whole (line_fault bad))
  FailsAt at_moment refusal =
      ((moment : ℤ) → ¬ MomentOf inputs.moment moment) × (refusal ≡ whole BadMoment)
  FailsAt at_files refusal =
      AreListed inputs.sums inputs.sums512 empty × (refusal ≡ whole NoFiles)
  FailsAt at_envelope refusal =
      ((envelope : Envelope) → ¬ EnvelopeOf inputs.layout envelope) × (refusal ≡ whole BadEnvelope)
  FailsAt at_payload_type refusal =
      (envelope : Envelope) × EnvelopeOf inputs.layout envelope
      × (envelope.payload_type ≢ in_toto_type) × (refusal ≡ whole WrongPayloadType)
  FailsAt at_owners refusal =
      (policy : Policy) × (envelope : Envelope) × PolicyOf inputs.policy policy
      × EnvelopeOf inputs.layout envelope
      × IsFirst (OwnerLacks panel envelope) (entries policy.owners) refusal
  FailsAt at_layout refusal =
      (envelope : Envelope) × (part : LayoutPart) × EnvelopeOf inputs.layout envelope
      × LayoutPartOf envelope.payload part × (refusal ≡ whole (BadLayout part))
  FailsAt at_links refusal =
      (documents : Documents) × (inner : ChainRefusal) × ReadAs inputs documents
      × ChainFirst (setting_of panel documents) inputs.depth documents.layout inputs.links inner
      × (refusal ≡ refusal_of inner)
  FailsAt at_records refusal =
      (documents : Documents) × ReadAs inputs documents
      × IsFirst (RecordFails inputs) documents.layout.inspections refusal
  FailsAt at_inspections refusal =
      (documents : Documents) × (evidence : Evidence) × ReadAs inputs documents
      × IsEvidence panel inputs documents evidence
      × IsFirst (InspectionFails (evidence_links evidence))
      (flat_map sides_of (zip documents.layout.inspections evidence.inspections)) refusal
  FailsAt at_deliver refusal =
      (documents : Documents) × (evidence : Evidence) × ReadAs inputs documents
      × IsEvidence panel inputs documents evidence
      × DeliverFails (evidence_links evidence) documents.policy.deliver documents.delivered refusal
  FailsAt at_provenance refusal =
      (documents : Documents) × ReadAs inputs documents
      × IsFirst (FileFails panel inputs documents.policy.expectations)
      (entries documents.delivered) refusal

  -- the refusal of the first stage that fails
  abbrev pub RefusedFor : Refusal → Type 0
  RefusedFor refusal = IsFirst FailsAt stages refusal
