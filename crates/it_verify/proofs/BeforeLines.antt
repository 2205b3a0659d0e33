-- What fails before the lines of the provenance are read is not that a file has no provenance.
use Rattle.std.proofs.Common.{List, refl, sym, subst, ⊎_elim, None, Some}
use Rattle.it_base.specs.Places.{IsFirst}
use Rattle.it_base.proofs.Firsts.{first_stands}
use Rattle.it_chain.specs.declared.refusal.ChainError.{ChainError}
use Rattle.it_chain.specs.declared.refusal.ChainError.TheVariants as error
use Rattle.it_chain.specs.declared.refusal.ChainFault.{ChainFault}
use Rattle.it_chain.specs.declared.refusal.ChainFault.TheVariants as chain
use Rattle.it_chain.specs.declared.refusal.RuleItem.{RuleItem}
use Rattle.it_digest.specs.Artifacts.{ArtifactMap}
use Rattle.it_docs.specs.declared.rule.Rule.{Rule}
use Rattle.it_docs.specs.declared.rule.Side.{Side}
use Rattle.it_docs.specs.declared.step.Inspection.{Inspection}
use Rattle.it_docs.specs.declared.link.Link.{Link}
use Rattle.it_dsse.specs.Panel.{Panel}
use Rattle.it_rules.specs.Item.{Links, Recorded}
use Rattle.it_prov.specs.declared.provenance_lines.ProvenanceLines.{ProvenanceLines}
use Rattle.it_report.specs.declared.refusal.Fault.{Fault}
use Rattle.it_report.specs.declared.refusal.Fault.TheVariants.{NoProvenance}
use Rattle.it_report.specs.declared.refusal.Refusal.{Refusal}
use Rattle.it_verify.specs.Delivered.{DeliverFails}
use Rattle.it_verify.specs.Grounds.{HasLines}
use Rattle.it_verify.specs.Inspections.{InspectionFails, RecordFails}
use Rattle.it_verify.specs.Refusals.{ItemRulesFail, fault_of}
use Rattle.it_verify.specs.RefusedFor.{RefusedFor}
use Rattle.it_verify.specs.inside.Failures.{RefusedAs, failure_of}
use Rattle.it_verify.specs.inside.Judging.{IsUnjudged, before_lines}
use Rattle.it_verify.specs.declared.failure.Failure.{Failure}
use Rattle.it_verify.specs.declared.failure.Failure.TheVariants.{Refused, OutOfMemory}
use Rattle.it_verify.specs.declared.inputs.Inputs.{Inputs}
use Rattle.it_verify.proofs.Failures.{refused_weaker}

-- a refusal for which no lines are there
abbrev pub IsEarlier : Refusal → Type 0
IsEarlier refusal = HasLines refusal.fault None

-- ---- the layout over the links
fault_earlier : (fault : ChainFault) → HasLines (fault_of fault) None
fault_earlier chain.Expired = tt
fault_earlier (chain.TwoPayloads step id) = tt
fault_earlier chain.TooDeep = tt
fault_earlier (chain.Threshold step found needed) = tt
fault_earlier (chain.Disagree step id) = tt
fault_earlier chain.InspectionInSublayout = tt
fault_earlier (chain.RuleFailed item side index path) = tt

pub chain_earlier : (e : ChainError) → RefusedAs IsEarlier (failure_of e)
chain_earlier (error.Refused refusal) = fault_earlier refusal.fault
chain_earlier error.OutOfMemory = tt

-- ---- what stands first
first_earlier : {P : Type 0} (At : P → Refusal → Type 0)
    → ((p : P) (refusal : Refusal) → At p refusal → IsEarlier refusal) → (ps : List P)
    (e : Failure) → RefusedAs (IsFirst At ps) e → RefusedAs IsEarlier e
first_earlier At each ps e h = refused_weaker (IsFirst At ps) IsEarlier e
    (λ refusal first. let stands = first_stands At ps refusal first in
    each stands.0 refusal stands.2) h

-- an inspection lacks its record
record_earlier : (inputs : Inputs) (inspection : Inspection) (refusal : Refusal)
    → RecordFails inputs inspection refusal → IsEarlier refusal
record_earlier inputs inspection refusal =
    ⊎_elim (λ x. subst IsEarlier (sym x.1) tt) (λ x. subst IsEarlier (sym x.2) tt)

pub records_earlier : (inputs : Inputs) (inspections : List Inspection) (e : Failure)
    → RefusedAs (IsFirst (RecordFails inputs) inspections) e → RefusedAs IsEarlier e
records_earlier inputs = first_earlier (RecordFails inputs) (record_earlier inputs)

-- ---- rules
rule_earlier : (links : Links) (whose : RuleItem) (side : Side) (rules : List Rule)
    (recorded : Recorded) (refusal : Refusal)
    → ItemRulesFail links whose side rules recorded refusal → IsEarlier refusal
rule_earlier links whose side rules recorded refusal h = subst IsEarlier (sym h.3) tt

-- a rule of an inspection fails
pub inspections_earlier : (links : Links) (items : List (Side × (Inspection × Link))) (e : Failure)
    → RefusedAs (IsFirst (InspectionFails links) items) e → RefusedAs IsEarlier e
inspections_earlier links = first_earlier (InspectionFails links)
    (λ item refusal h. rule_earlier links _ _ _ _ refusal h)

-- a rule on what is delivered fails
pub deliver_earlier : (links : Links) (rules : List Rule) (delivered : ArtifactMap) (e : Failure)
    → RefusedAs (DeliverFails links rules delivered) e → RefusedAs IsEarlier e
deliver_earlier links rules delivered e = refused_weaker (DeliverFails links rules delivered)
    IsEarlier e (λ refusal h. rule_earlier links _ _ _ _ refusal h)

-- ---- the failure that is handed out
pub unjudged : (panel : Panel) (inputs : Inputs) (e : Failure)
    → RefusedAs (RefusedFor panel inputs) e → RefusedAs IsEarlier e
    → IsUnjudged panel inputs (before_lines e)
unjudged panel inputs e fails earlier = record {
  fails = fails;
  lines = tt;
  has_lines = earlier;
}

-- ---- where the lines are there
some_has : (lines : ProvenanceLines) (fault : Fault) → HasLines fault (Some lines)
some_has lines (NoProvenance path best) = refl
some_has lines fault = tt

pub some_lines : (lines : ProvenanceLines) (e : Failure)
    → RefusedAs (λ refusal. HasLines refusal.fault (Some lines)) e
some_lines lines (Refused refusal) = some_has lines refusal.fault
some_lines lines OutOfMemory = tt
