-- The verdict on what is delivered.
use Rattle.std.specs.Prelude.{◌≡◌, ⊤}
use Rattle.it_dsse.specs.Panel.{Panel}
use Rattle.it_report.specs.declared.verdict.Verdict.{Verdict}
use Rattle.it_report.specs.declared.verdict.Verdict.TheVariants.{Refused, Accepted}
use Rattle.it_verify.specs.Documents.{Documents}
use Rattle.it_verify.specs.Evidence.{Evidence}
use Rattle.it_verify.specs.Made.{IsMadeBy, verdict_of}
use Rattle.it_verify.specs.RefusedFor.{RefusedFor}
use Rattle.it_verify.specs.declared.inputs.Inputs.{Inputs}

-- the verdict on inputs: accepted, with the steps and files of documents and evidence that show the
-- delivered files were made as the owners prescribed, or refused with the first fault
abbrev pub IsVerdict : Panel → Inputs → Verdict → Type 0
IsVerdict panel inputs (Accepted steps files) =
    (documents : Documents) × (evidence : Evidence) × IsMadeBy panel inputs documents evidence
    × (Accepted steps files ≡ verdict_of documents evidence)
IsVerdict panel inputs (Refused refusal) = RefusedFor panel inputs refusal

-- a fact for a verdict that accepts
abbrev pub OnAccepted : Verdict → Type 0 → Type 0
OnAccepted (Accepted steps files) P = P
OnAccepted (Refused refusal) P = ⊤

-- a fact for a verdict that refuses
abbrev pub OnRefused : Verdict → Type 0 → Type 0
OnRefused (Accepted steps files) P = ⊤
OnRefused (Refused refusal) P = P
