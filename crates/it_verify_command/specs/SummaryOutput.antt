-- The summary of a delivery, in place of its report (this profile's choice; the summary is that of
-- SLSA v1.0, verification summary).
use Rattle.std.specs.Prelude.{◌≡◌, ℕ, List, []}
use Rattle.it_dsse.specs.Panel.{Panel}
use Rattle.it_evidence.specs.Evidence.{IsBehind}
use Rattle.it_json_report.specs.declared.evidence.Evidence.{Evidence}
use Rattle.it_report.specs.declared.verdict.Verdict.{Verdict}
use Rattle.it_report.specs.declared.verdict.Verdict.TheVariants.{Accepted, Refused}
use Rattle.it_summary.specs.Summary.{summary_of}
use Rattle.it_verify.specs.declared.inputs.Inputs.{Inputs}
use Rattle.it_vouched.specs.declared.vouched.Vouched.{Vouched}
use Rattle.it_verify_command.specs.declared.output_form.SummaryNames.{SummaryNames}

-- the text is the summary of what stands behind a delivery that is accepted, under these names; of
-- one that is refused there is none
abbrev pub IsSummaryText : SummaryNames → Panel → List Vouched → Inputs → Verdict → List ℕ → Type 0
IsSummaryText names panel vouched inputs (Accepted steps files) text =
    (evidence : Evidence) × IsBehind panel vouched inputs evidence
    × (text ≡ summary_of evidence names.verifier names.resource)
IsSummaryText names panel vouched inputs (Refused refusal) text = text ≡ []
