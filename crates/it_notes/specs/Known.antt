-- What the verification read and found, from which the notes are made.
use Rattle.std.specs.Prelude.{◌≡◌, IfSome, ⊤}
use Rattle.it_digest.specs.Listed.{AreListed}
use Rattle.it_docs.specs.Policy.{PolicyOf}
use Rattle.it_dsse.specs.Panel.{Panel}
use Rattle.it_member_notes.specs.MemberNotes.{TellsPolicyMembers}
use Rattle.it_prov.specs.ProvenanceLines.{AreLinesOf}
use Rattle.it_report.specs.declared.refusal.Fault.{Fault}
use Rattle.it_report.specs.declared.verdict.Verdict.{Verdict}
use Rattle.it_report.specs.declared.verdict.Verdict.TheVariants.{Accepted, Refused}
use Rattle.it_verify.specs.Grounds.{HasLines, IsBegun}
use Rattle.it_verify.specs.Verdict.{IsVerdict}
use Rattle.it_verify.specs.declared.inputs.Inputs.{Inputs}
use Rattle.it_notes.specs.FoundInDocuments.{AreFoundInDocuments}
use Rattle.it_notes.specs.Level.{IsTop, StepsStand}
use Rattle.it_notes.specs.declared.known.Basis.{Basis}
use Rattle.it_notes.specs.declared.known.Basis.TheVariants as bases
use Rattle.it_notes.specs.declared.known.Known.{Known}
use Rattle.it_notes.specs.declared.known.Told.{Told}

-- this is what the inputs read as, with the records of the layout's steps and the lines of the
-- provenance that are envelopes, where they are there
pub record IsKnown (panel : Panel) (inputs : Inputs) (known : Known) : Type 0 where
  pub inputs_are : known.inputs.now ≡ inputs
  pub policy : PolicyOf inputs.policy known.policy
  pub delivered : AreListed inputs.sums inputs.sums512 known.delivered
  pub top : IsTop inputs known.top
  pub steps : StepsStand panel inputs.depth known.top
  pub lines : IfSome known.lines (AreLinesOf inputs.provenance)

-- this is what the inputs read as, as far as they were read
abbrev pub IsBasis : Panel → Inputs → Basis → Type 0
IsBasis panel inputs bases.Nothing = ⊤
IsBasis panel inputs (bases.Begun begun) = IsBegun inputs begun
IsBasis panel inputs (bases.Known known) = IsKnown panel inputs known

-- where the fault is that a file has no provenance, the lines of the provenance are known
abbrev pub LinesAreKnown : Fault → Basis → Type 0
LinesAreKnown fault (bases.Known known) = HasLines fault known.lines
LinesAreKnown fault basis = ⊤

-- the same of the fault of a verdict that refuses
abbrev pub LinesAreTold : Verdict → Basis → Type 0
LinesAreTold (Accepted steps files) basis = ⊤
LinesAreTold (Refused refusal) basis = LinesAreKnown refusal.fault basis

-- the verdict is the one on the inputs, this is what they read as, what is noted on the policy's
-- members is true, and this is found all the same
pub record IsTold (panel : Panel) (inputs : Inputs) (told : Told) : Type 0 where
  pub verdict : IsVerdict panel inputs told.verdict
  pub basis : IsBasis panel inputs told.basis
  pub lines : LinesAreTold told.verdict told.basis
  pub noted : IfSome told.noted (TellsPolicyMembers inputs.policy)
  pub found : IfSome told.found (AreFoundInDocuments panel inputs)
