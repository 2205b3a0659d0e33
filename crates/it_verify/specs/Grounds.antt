-- What a verification rests on where it accepts, and what it had read or found where it refuses.
use Rattle.std.specs.Prelude.{IfSome, IsSome, Option, ⊤}
use Rattle.it_dsse.specs.Envelope.{EnvelopeOf}
use Rattle.it_dsse.specs.Panel.{Panel}
use Rattle.it_docs.specs.Policy.{PolicyOf}
use Rattle.it_chain.specs.Judged.{AreStepRecords}
use Rattle.it_prov.specs.ProvenanceLines.{AreLinesOf}
use Rattle.it_prov.specs.declared.provenance_lines.ProvenanceLines.{ProvenanceLines}
use Rattle.it_report.specs.declared.refusal.Fault.{Fault}
use Rattle.it_report.specs.declared.refusal.Fault.TheVariants.{BadLayout, NoProvenance}
use Rattle.it_report.specs.declared.refusal.Fault.TheVariants.{OwnerMissing, WrongPayloadType}
use Rattle.it_report.specs.declared.refusal.Refusal.{Refusal}
use Rattle.it_verify.specs.Documents.{ReadAs, setting_of}
use Rattle.it_verify.specs.Made.{IsMadeBy}
use Rattle.it_verify.specs.Owners.{OwnersSign}
use Rattle.it_verify.specs.RefusedFor.{RefusedFor}
use Rattle.it_verify.specs.declared.grounds.Before.{Before}
use Rattle.it_verify.specs.declared.grounds.Before.TheVariants as had
use Rattle.it_verify.specs.declared.grounds.Begun.{Begun}
use Rattle.it_verify.specs.declared.grounds.Found.{Found}
use Rattle.it_verify.specs.declared.grounds.Grounds.{Grounds}
use Rattle.it_verify.specs.declared.grounds.Outcome.{Outcome}
use Rattle.it_verify.specs.declared.grounds.Outcome.TheVariants.{Made, Refused}
use Rattle.it_verify.specs.declared.inputs.Inputs.{Inputs}

-- the fault is in what the layout's envelope holds: its payload is of another type, is not signed
-- by an owner, or is no layout
abbrev pub IsInEnvelope : Fault → Type 0
IsInEnvelope WrongPayloadType = ⊤
IsInEnvelope (OwnerMissing id) = ⊤
IsInEnvelope (BadLayout part) = ⊤
IsInEnvelope fault = ⊥

-- the inputs read as this policy and as this envelope of the layout
pub record IsBegun (inputs : Inputs) (begun : Begun) : Type 0 where
  pub policy : PolicyOf inputs.policy begun.policy
  pub envelope : EnvelopeOf inputs.layout begun.envelope

-- where the fault is that a file has no provenance, the lines of the provenance are there
abbrev pub HasLines : Fault → Option ProvenanceLines → Type 0
HasLines (NoProvenance path best) lines = IsSome lines
HasLines fault lines = ⊤

-- the inputs read as these documents, every owner of the policy signed the layout, and these are
-- the records of its steps and the lines of the provenance that are envelopes, where there are any
pub record IsFound (panel : Panel) (inputs : Inputs) (found : Found) : Type 0 where
  pub read : ReadAs inputs found.documents
  pub owners : OwnersSign panel found.documents.envelope found.documents.policy.owners
  pub steps : IfSome found.steps (AreStepRecords (setting_of panel found.documents) inputs.depth
      found.documents.layout inputs.links)
  pub lines : IfSome found.lines (AreLinesOf inputs.provenance)

-- this was read and found before a fault (this profile's choice); where nothing was, the fault is
-- not in what the layout's envelope holds
abbrev pub IsBefore : Panel → Inputs → Fault → Before → Type 0
IsBefore panel inputs fault had.Nothing = ¬ IsInEnvelope fault
IsBefore panel inputs fault (had.Begun begun) = IsBegun inputs begun
IsBefore panel inputs fault (had.Found found) =
    IsFound panel inputs found × HasLines fault found.lines

-- the refusal is the first fault, and this was read and found before it
abbrev pub IsRefused : Panel → Inputs → Before → Refusal → Type 0
IsRefused panel inputs before refusal =
    RefusedFor panel inputs refusal × IsBefore panel inputs refusal.fault before

-- the documents and the evidence show that the delivered files were made as the owners prescribed,
-- and these are the lines of the provenance that are envelopes
pub record AreGrounds (panel : Panel) (inputs : Inputs) (grounds : Grounds) : Type 0 where
  pub made : IsMadeBy panel inputs grounds.documents grounds.evidence
  pub lines : AreLinesOf inputs.provenance grounds.lines

-- the grounds show that the delivered files were made as the owners prescribed, or they are refused
abbrev pub IsOutcome : Panel → Inputs → Outcome → Type 0
IsOutcome panel inputs (Made grounds) = AreGrounds panel inputs grounds
IsOutcome panel inputs (Refused refusal before) = IsRefused panel inputs before refusal
