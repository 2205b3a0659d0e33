-- What the notes on a refusal say (words of this project). Each is about the fault that is
-- reported, and what the verification was given.
use Rattle.std.specs.Prelude.{◌≡◌, ◌≢◌, ◌⊎◌, ℕ, List, [], Option, Some, All, Contains, IfSome}
use Rattle.std.specs.FinMap.{get}
use Rattle.it_digest.specs.Artifacts.{ArtifactMap}
use Rattle.it_digest.specs.Listed.{AreListed}
use Rattle.it_digest.specs.declared.compare.DigestSet.{DigestSet}
use Rattle.it_chain.specs.Judged.{AreStepRecords}
use Rattle.it_chain.specs.declared.chain.StepResult.{StepResult}
use Rattle.it_dsse.specs.Envelope.{EnvelopeOf}
use Rattle.it_dsse.specs.Panel.{Panel}
use Rattle.it_dsse.specs.declared.envelope.Envelope.{Envelope}
use Rattle.it_docs.specs.PayloadType.{in_toto_type}
use Rattle.it_docs.specs.Policy.{PolicyOf}
use Rattle.it_docs.specs.declared.layout_fault.LayoutPart.{LayoutPart}
use Rattle.it_docs.specs.declared.policy.Expectation.{Expectation}
use Rattle.it_docs.specs.declared.policy.Policy.{Policy}
use Rattle.it_docs.specs.declared.policy_fault.PolicyPart.{PolicyPart}
use Rattle.it_docs.specs.declared.step.Step.{Step}
use Rattle.it_part_notes.specs.PartNotes.{TellsEnvelope, TellsLayoutPart, TellsPolicyPart}
use Rattle.it_part_notes.specs.Moments.{TellsMoment}
use Rattle.it_part_notes.specs.SumLine.{FirstLineReturns, TellsSumLine}
use Rattle.it_part_notes.specs.declared.moment_note.MomentNote.{MomentNote}
use Rattle.it_part_notes.specs.declared.part_note.PartNote.{PartNote}
use Rattle.it_part_notes.specs.declared.sum_line_note.SumLineNote.{SumLineNote}
use Rattle.it_prov.specs.Fits.{Fits}
use Rattle.it_prov_notes.specs.LaidOut.{IsLaidOut}
use Rattle.it_prov_notes.specs.ProvenanceNotes.{Holds as TellsLine}
use Rattle.it_prov_notes.specs.declared.note.ProvenanceNote.{ProvenanceNote}
use Rattle.it_report.specs.declared.refusal.Fault.{Fault}
use Rattle.it_report.specs.declared.refusal.Fault.TheVariants as faults
use Rattle.it_report.specs.declared.refusal.Refusal.{Refusal}
use Rattle.it_rule_notes.specs.CountingFile.{setting_of}
use Rattle.it_rule_notes.specs.Delivery.{TellsDelivery}
use Rattle.it_rule_notes.specs.Disagree.{TellsDisagree}
use Rattle.it_rule_notes.specs.Expiry.{TellsExpiry}
use Rattle.it_rule_notes.specs.MetNote.{TellsMet}
use Rattle.it_rule_notes.specs.Owner.{TellsOwner}
use Rattle.it_rule_notes.specs.Payloads.{TellsPayloads}
use Rattle.it_rule_notes.specs.Rule.{TellsRule}
use Rattle.it_rule_notes.specs.declared.disagree_note.DisagreeNote.{DisagreeNote}
use Rattle.it_rule_notes.specs.declared.expiry_note.ExpiryNote.{ExpiryNote}
use Rattle.it_rule_notes.specs.declared.judged_note.JudgedNote.{JudgedNote}
use Rattle.it_rule_notes.specs.declared.met_note.MetNote.{MetNote}
use Rattle.it_rule_notes.specs.declared.owner_note.OwnerNote.{OwnerNote}
use Rattle.it_rule_notes.specs.declared.payloads_note.PayloadsNote.{PayloadsNote}
use Rattle.it_rule_notes.specs.declared.rule_place.RulePlace.{RulePlace}
use Rattle.it_step_notes.specs.StepNotes.{Holds as TellsStep}
use Rattle.it_verify.specs.declared.inputs.Inputs.{Inputs}
use Rattle.it_notes.specs.DigestLists.{bad_line, list_in}
use Rattle.it_notes.specs.FileDetails.{TellsDetail}
use Rattle.it_notes.specs.Level.{IsLevel, Place}
use Rattle.it_notes.specs.NotGiven.{TellsEmpty, TellsFlaw, TellsPatterns}
use Rattle.it_notes.specs.declared.fault_level.FaultLevel.{FaultLevel}
use Rattle.it_notes.specs.declared.file_detail.DetailedNote.{DetailedNote}
use Rattle.it_notes.specs.declared.layout_envelope.EnvelopeNote.{EnvelopeNote}
use Rattle.it_notes.specs.declared.layout_envelope.EnvelopeNote.TheVariants as envelopes
use Rattle.it_notes.specs.declared.notes.RefusalNotes.{RefusalNotes}
use Rattle.it_notes.specs.declared.notes.RefusalNotes.TheVariants as notes
use Rattle.it_notes.specs.declared.notes.RuleNotes.{RuleNotes}

-- the digest lists have these digests for a path
pub record IsDelivered (inputs : Inputs) (path : List ℕ) (digests : DigestSet) : Type 0 where
  pub delivered : ArtifactMap
  pub reads : AreListed inputs.sums inputs.sums512 delivered
  pub stands : get delivered path ≡ Some digests

-- what the rule at a place of a layout met
pub record TellsMetAt (panel : Panel) (depth : ℕ) (level : FaultLevel) (place : RulePlace)
    (note : MetNote) : Type 0 where
  pub place_is : note.place ≡ place
  pub is_true : TellsMet (setting_of panel level.moment) depth level.signed.layout level.links.now
      note

-- what the rule at a place met, over the records of the layout's steps, and why it failed: a rule
-- of the policy on what is delivered
pub record TellsDeliveryAt (panel : Panel) (inputs : Inputs) (level : FaultLevel)
    (place : RulePlace) (note : JudgedNote) : Type 0 where
  pub policy : Policy
  pub delivered : ArtifactMap
  pub results : List StepResult
  pub is_policy : PolicyOf inputs.policy policy
  pub reads : AreListed inputs.sums inputs.sums512 delivered
  pub are_records : AreStepRecords (setting_of panel level.moment) inputs.depth
      level.signed.layout level.links.now results
  pub place_is : note.met.place ≡ place
  pub tells : TellsDelivery level.signed.layout policy.deliver delivered results place.index note

-- what a file or a key id is for a step of a layout, with the details of the file
pub record TellsDetailed (panel : Panel) (level : FaultLevel) (step : Step) (told : DetailedNote)
    : Type 0 where
  pub note : TellsStep panel level.signed.layout level.links.now step told.note
  pub detail : IfSome told.detail (TellsDetail level.links.now step told.note)

-- what is said of a layout at which a delivery was refused
module _ (panel : Panel) (inputs : Inputs) (level : FaultLevel) (fault : Fault) where
  -- what the files and key ids are for the step that has too few keys
  pub record TellsThreshold (notes : List DetailedNote) : Type 0 where
    pub step : Step
    pub found : ℕ
    pub needed : ℕ
    pub fault_is : fault ≡ faults.Threshold step.name found needed
    pub in_layout : Contains level.signed.layout.steps step
    pub are_true : All (TellsDetailed panel level step) notes

  -- when the layout expired
  pub record TellsEnd (note : ExpiryNote) : Type 0 where
    pub fault_is : fault ≡ faults.Expired
    pub is_true : TellsExpiry level.signed.payload inputs.moment note

  -- which files hold bodies of the key id that differ
  pub record TellsTwo (note : PayloadsNote) : Type 0 where
    pub fault_is : fault ≡ faults.TwoPayloads note.step note.id
    pub is_true : TellsPayloads (setting_of panel level.moment) level.signed.layout
        level.links.now note

  -- which files hold links of the step that differ
  pub record TellsOdd (note : DisagreeNote) : Type 0 where
    pub id : List ℕ
    pub fault_is : fault ≡ faults.Disagree note.step id
    pub is_true : TellsDisagree (setting_of panel level.moment) level.signed.layout
        level.links.now note

  -- what the failed rule says, and what it met
  pub record TellsFailed (notes : RuleNotes) : Type 0 where
    pub policy : Policy
    pub path : List ℕ
    pub fault_is : fault ≡ faults.RuleFailed notes.rule.place.item notes.rule.place.side
        notes.rule.place.index path
    pub is_policy : PolicyOf inputs.policy policy
    pub rule : TellsRule level.signed.layout policy.deliver notes.rule
    pub met : IfSome notes.met (TellsMetAt panel inputs.depth level notes.rule.place)
    pub delivery : IfSome notes.delivery (TellsDeliveryAt panel inputs level notes.rule.place)
    pub returns : IfSome notes.returns
        (λ algorithm. FirstLineReturns (list_in algorithm inputs))

  -- the notes are true of the layout, and about the fault
  abbrev pub TellsAt : RefusalNotes → Type 0
  TellsAt notes.Nothing = Unit {0}
  TellsAt (notes.Step told) = TellsThreshold told.items
  TellsAt (notes.Expiry told) = TellsEnd told
  TellsAt (notes.Payloads told) = TellsTwo told
  TellsAt (notes.Disagreement told) = TellsOdd told
  TellsAt (notes.Rule told) = TellsFailed told
  TellsAt told = ⊥

-- what is said of the documents that were given
module _ (panel : Panel) (inputs : Inputs) (fault : Fault) where
  -- what is wrong with the policy
  pub record TellsBadPolicy (note : PartNote) : Type 0 where
    pub part : PolicyPart
    pub fault_is : fault ≡ faults.BadPolicy part
    pub is_true : TellsPolicyPart inputs.policy part note

  -- what is wrong with the layout
  pub record TellsBadLayout (note : PartNote) : Type 0 where
    pub part : LayoutPart
    pub envelope : Envelope
    pub fault_is : fault ≡ faults.BadLayout part
    pub is_envelope : EnvelopeOf inputs.layout envelope
    pub is_true : TellsLayoutPart envelope.payload part note

  -- under which other type than in-toto's the layout is signed
  pub record TellsType (found : List ℕ) : Type 0 where
    pub envelope : Envelope
    pub fault_is : fault ≡ faults.WrongPayloadType
    pub is_envelope : EnvelopeOf inputs.layout envelope
    pub type_is : found ≡ envelope.payload_type
    pub is_other : found ≢ in_toto_type

  -- what is wrong with what was given as the envelope of the layout
  abbrev pub TellsNoEnvelope : EnvelopeNote → Type 0
  TellsNoEnvelope (envelopes.NoEnvelope note) =
      (fault ≡ faults.BadEnvelope) × TellsEnvelope inputs.layout note
  TellsNoEnvelope (envelopes.OtherType found) = TellsType found

  -- what is wrong with the moment
  abbrev pub TellsBadMoment : MomentNote → Type 0
  TellsBadMoment note = (fault ≡ faults.BadMoment) × TellsMoment inputs.moment note

  -- what is wrong with the line of a digest list
  pub record TellsBadLine (note : SumLineNote) : Type 0 where
    pub fault_is : fault ≡ bad_line note.algorithm note.number
    pub is_true : TellsSumLine (list_in note.algorithm inputs) note

  -- where an owner is missing, which of the owners signed the layout
  pub record TellsOwners (notes : List OwnerNote) : Type 0 where
    pub policy : Policy
    pub envelope : Envelope
    pub missing : List ℕ
    pub fault_is : fault ≡ faults.OwnerMissing missing
    pub is_policy : PolicyOf inputs.policy policy
    pub is_envelope : EnvelopeOf inputs.layout envelope
    pub are_true : All (TellsOwner panel envelope policy.owners) notes

  -- what the lines of the provenance miss for the file that has none
  pub record TellsMissing (notes : List ProvenanceNote) : Type 0 where
    pub policy : Policy
    pub expectation : Expectation
    pub path : List ℕ
    pub best : Option ℕ
    pub digests : DigestSet
    pub fault_is : fault ≡ faults.NoProvenance path best
    pub is_policy : PolicyOf inputs.policy policy
    pub fits : Fits policy.expectations path expectation
    pub is_delivered : IsDelivered inputs path digests
    pub are_true : All (TellsLine panel expectation digests inputs.provenance) notes

  -- where a file has no provenance, that the provenance is one envelope over several lines
  pub record TellsLaidOut : Type 0 where
    pub path : List ℕ
    pub best : Option ℕ
    pub fault_is : fault ≡ faults.NoProvenance path best
    pub is_true : IsLaidOut inputs.provenance

  -- the notes are true of the documents, and about the fault
  abbrev pub TellsInputs : RefusalNotes → Type 0
  TellsInputs notes.Nothing = Unit {0}
  TellsInputs (notes.Part told) = TellsBadPolicy told ⊎ TellsBadLayout told
  TellsInputs (notes.Envelope told) = TellsNoEnvelope told
  TellsInputs (notes.Line told) = TellsBadLine told
  TellsInputs (notes.Moment told) = TellsBadMoment told
  TellsInputs notes.NoLine =
      (fault ≡ faults.NoFiles) × (inputs.sums ≡ []) × (inputs.sums512 ≡ [])
  TellsInputs (notes.Owners told) = TellsOwners told.items
  TellsInputs (notes.Provenance told) = TellsMissing told.items
  TellsInputs notes.LaidOut = TellsLaidOut
  TellsInputs notes.EmptyProvenance = TellsEmpty inputs fault
  TellsInputs (notes.Patterns told) = TellsPatterns inputs fault told
  TellsInputs (notes.Record told) = TellsFlaw inputs fault told.name told.flaw
  TellsInputs told = ⊥

-- the notes are true of the layout to which these places lead down
pub record TellsLevel (panel : Panel) (inputs : Inputs) (at : List Place) (fault : Fault)
    (told : RefusalNotes) : Type 0 where
  pub level : FaultLevel
  pub is_level : IsLevel panel inputs at level
  pub is_true : TellsAt panel inputs level fault told

-- the same, or there are none
abbrev pub TellsLevelOrNothing : Panel → Inputs → List Place → Fault → RefusalNotes → Type 0
TellsLevelOrNothing panel inputs at fault told = (told ≡ notes.Nothing)
    ⊎ TellsLevel panel inputs at fault told

-- the notes are true, and about the refusal
abbrev pub Tells : Panel → Inputs → Refusal → RefusalNotes → Type 0
Tells panel inputs refusal told = TellsInputs panel inputs refusal.fault told
    ⊎ TellsLevel panel inputs refusal.at refusal.fault told
