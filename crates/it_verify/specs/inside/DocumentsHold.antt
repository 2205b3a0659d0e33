-- What reading the documents answers.
use Rattle.std.specs.FinMap.{empty, entries}
use Rattle.std.specs.Prelude.{◌≡◌, ◌≢◌, ◌⊎◌, List, [], ◌∷◌}
use Rattle.it_base.specs.Places.{IsFirst}
use Rattle.it_base.specs.Table.{Named}
use Rattle.it_dsse.specs.Panel.{Panel}
use Rattle.it_dsse.specs.declared.envelope.Envelope.{Envelope}
use Rattle.it_dsse.specs.declared.key_object.KeyObject.{KeyObject}
use Rattle.it_docs.specs.Layout.{LayoutOf}
use Rattle.it_docs.specs.LayoutPart.{LayoutPartOf}
use Rattle.it_docs.specs.PayloadType.{in_toto_type}
use Rattle.it_docs.specs.declared.layout.Layout.{Layout}
use Rattle.it_docs.specs.declared.layout_fault.LayoutPart.{LayoutPart}
use Rattle.it_report.specs.declared.refusal.Fault.TheVariants.{BadLayout, WrongPayloadType}
use Rattle.it_report.specs.declared.refusal.Refusal.{Refusal}
use Rattle.it_verify.specs.Documents.{Documents, ReadAs}
use Rattle.it_verify.specs.Grounds.{IsRefused}
use Rattle.it_verify.specs.Owners.{OwnerLacks, OwnersSign}
use Rattle.it_verify.specs.Refusals.{whole}
use Rattle.it_verify.specs.RefusedFor.{Stage, at_policy, at_sums, at_moment, at_files, at_envelope}
use Rattle.it_verify.specs.RefusedFor.{at_payload_type, at_owners, at_layout}
use Rattle.it_verify.specs.inside.Failures.{RefusedAs}
use Rattle.it_verify.specs.declared.documents.Unread.{Unread}
use Rattle.it_verify.specs.declared.failure.Failure.{Failure}
use Rattle.it_verify.specs.declared.grounds.Before.TheVariants.{Nothing}
use Rattle.it_verify.specs.declared.inputs.Inputs.{Inputs}

-- the inputs read as these documents, some file is delivered, and every owner of the policy signed
-- the layout
pub record DocumentsHold (panel : Panel) (inputs : Inputs) (documents : Documents) : Type 0 where
  pub read : ReadAs inputs documents
  pub some_file : documents.delivered ≢ empty
  pub owners : OwnersSign panel documents.envelope documents.policy.owners

-- a failure before anything was read that is handed out
abbrev pub unread : Failure → Unread
unread failure = record { failure = failure; before = Nothing }

-- the refusal, if it is one, is the first fault, and this was read before it
abbrev pub IsUnread : Panel → Inputs → Unread → Type 0
IsUnread panel inputs stopped = RefusedAs (IsRefused panel inputs stopped.before) stopped.failure

module _ (panel : Panel) (envelope : Envelope) (owners : Named KeyObject) where
  -- the envelope is of the in-toto type, every owner signed it, and its payload is this layout
  pub record IsSignedLayout (layout : Layout) : Type 0 where
    pub payload_type : envelope.payload_type ≡ in_toto_type
    pub sign : OwnersSign panel envelope owners
    pub reads : LayoutOf envelope.payload layout

  -- the first owner who did not sign an envelope of that type
  abbrev pub LacksOwner : Refusal → Type 0
  LacksOwner refusal = (envelope.payload_type ≡ in_toto_type)
      × IsFirst (OwnerLacks panel envelope) (entries owners) refusal

  -- the first part that fails of what every owner signed in an envelope of that type
  abbrev pub LacksPart : Refusal → Type 0
  LacksPart refusal =
      (part : LayoutPart) × (envelope.payload_type ≡ in_toto_type)
      × OwnersSign panel envelope owners × LayoutPartOf envelope.payload part
      × (refusal ≡ whole (BadLayout part))

  -- why there is no such layout: the type, an owner, or a part of the payload
  abbrev pub LacksLayout : Refusal → Type 0
  LacksLayout refusal =
      ((envelope.payload_type ≢ in_toto_type) × (refusal ≡ whole WrongPayloadType))
      ⊎ (LacksOwner refusal ⊎ LacksPart refusal)

-- the stages that are about the documents alone
abbrev pub document_stages : List Stage
document_stages =
    at_policy ∷ at_sums ∷ at_moment ∷ at_files ∷ at_envelope ∷ at_payload_type ∷ at_owners
    ∷ at_layout ∷ []
