-- What the notes on a verification say (words of this project).
use Rattle.std.specs.Prelude.{◌≡◌, ◌⊎◌, ℕ, List, [], All, IfSome}
use Rattle.it_docs.specs.Layout.{LayoutOf}
use Rattle.it_docs.specs.Policy.{PolicyOf}
use Rattle.it_docs.specs.declared.layout.Layout.{Layout}
use Rattle.it_docs.specs.declared.policy.Policy.{Policy}
use Rattle.it_dsse.specs.Envelope.{EnvelopeOf}
use Rattle.it_dsse.specs.Panel.{Panel}
use Rattle.it_dsse.specs.declared.envelope.Envelope.{Envelope}
use Rattle.it_member_notes.specs.LayoutNotes.{Holds}
use Rattle.it_member_notes.specs.MemberNotes.{TellsLayoutMembers, TellsPolicyMembers}
use Rattle.it_member_notes.specs.RuleListNotes.{IsOfRules}
use Rattle.it_member_notes.specs.declared.layout_note.LayoutNote.{LayoutNote}
use Rattle.it_member_notes.specs.declared.rule_list_note.RuleListNote.{RuleListNote}
use Rattle.it_report.specs.declared.verdict.Verdict.{Verdict}
use Rattle.it_report.specs.declared.verdict.Verdict.TheVariants.{Accepted, Refused}
use Rattle.it_verify.specs.declared.inputs.Inputs.{Inputs}
use Rattle.it_notes.specs.KeyNotes.{TellsKeys}
use Rattle.it_notes.specs.PlaceNotes.{TellsPlace}
use Rattle.it_notes.specs.RefusalNotes.{Tells}
use Rattle.it_notes.specs.declared.layout_notes.LayoutNotes.{LayoutNotes}
use Rattle.it_notes.specs.declared.notes.Notes.{Notes}
use Rattle.it_notes.specs.declared.notes.RefusalNotes.{RefusalNotes}
use Rattle.it_notes.specs.declared.notes.RefusalNotes.TheVariants.{Nothing}
use Rattle.it_notes.specs.declared.place_notes.PlaceNotes.{PlaceNotes}

-- the notes are true of the layout in a payload; without one, there are no notes
abbrev pub AreOfLayout : List ℕ → List LayoutNote → Type 0
AreOfLayout payload notes =
    (notes ≡ []) ⊎ ((layout : Layout) × LayoutOf payload layout × All (Holds layout) notes)

-- the notes are true of the rules on what is delivered in the policy in bytes, which see the layout
-- in a payload; where either is missing, there are no notes
abbrev pub AreOfDelivery : List ℕ → List ℕ → List RuleListNote → Type 0
AreOfDelivery bytes payload notes =
    (notes ≡ []) ⊎ ((policy : Policy) × (layout : Layout) × PolicyOf bytes policy
    × LayoutOf payload layout × All (IsOfRules layout policy.deliver) notes)

-- the notes are true of the payload of the envelope that was given, and of the policy's rules that
-- see it
pub record TellsLayout (inputs : Inputs) (notes : LayoutNotes) : Type 0 where
  pub envelope : Envelope
  pub is_envelope : EnvelopeOf inputs.layout envelope
  pub deliver : AreOfDelivery inputs.policy envelope.payload notes.deliver.items
  pub members : TellsLayoutMembers envelope.payload notes.members
  pub rules : AreOfLayout envelope.payload notes.rules.items

-- the notes on a refusal are true of it; an accepted delivery has none
abbrev pub TellsVerdict : Panel → Inputs → Verdict → RefusalNotes → Type 0
TellsVerdict panel inputs (Accepted steps files) Nothing = Unit {0}
TellsVerdict panel inputs (Accepted steps files) _ = ⊥
TellsVerdict panel inputs (Refused refusal) told = Tells panel inputs refusal told

-- the place of the sublayout that a refusal is about; an accepted delivery has none
abbrev pub TellsWhere : Panel → Inputs → Verdict → PlaceNotes → Type 0
TellsWhere panel inputs (Accepted steps files) notes = ⊥
TellsWhere panel inputs (Refused refusal) notes = TellsPlace panel inputs refusal.at notes

-- every note is true of the inputs and of the verdict on them
pub record AreTrue (panel : Panel) (inputs : Inputs) (verdict : Verdict) (notes : Notes)
    : Type 0 where
  pub place : IfSome notes.place (TellsWhere panel inputs verdict)
  pub refusal : TellsVerdict panel inputs verdict notes.refusal
  pub keys : TellsKeys panel inputs verdict notes.keys.items
  pub policy : TellsPolicyMembers inputs.policy notes.policy.now
  pub layout : IfSome notes.layout (TellsLayout inputs)
