-- What the summary of a delivery is, where the verdict accepts.
use Rattle.std.proofs.Common.{◌≡◌, ℕ, List, Option, Some}
use Rattle.std.specs.Prelude.{MatchOption}
use Rattle.it_dsse.specs.Panel.{Panel}
use Rattle.it_evidence.specs.Evidence.{IsBehind}
use Rattle.it_json_report.specs.declared.evidence.Evidence.{Evidence}
use Rattle.it_report.specs.declared.verdict.Verdict.{Verdict}
use Rattle.it_report.specs.declared.verdict.Verdict.TheVariants.{Accepted}
use Rattle.it_summary.specs.Summary.{summary_of}
use Rattle.it_verify.specs.Verdict.{OnAccepted}
use Rattle.it_verify.specs.declared.inputs.Inputs.{Inputs}
use Rattle.it_vouched.specs.declared.vouched.Vouched.{Vouched}
use Rattle.it_verify_command.specs.SummaryOutput.{IsSummaryText}
use Rattle.it_verify_command.specs.declared.output_form.SummaryNames.{SummaryNames}

-- the summary of this evidence is that of the delivery, where it stands behind it
pub is_summary : (names : SummaryNames) (panel : Panel) (vouched : List Vouched) (inputs : Inputs)
    (verdict : Verdict) (behind : Option Evidence) (evidence : Evidence) (text : List ℕ)
    → OnAccepted verdict (MatchOption behind ⊥ (IsBehind panel vouched inputs))
    → behind ≡ Some evidence → text ≡ summary_of evidence names.verifier names.resource
    → (steps files : _) → verdict ≡ Accepted steps files
    → IsSummaryText names panel vouched inputs verdict text
is_summary names panel vouched inputs verdict behind evidence text stands given is steps files accepts =
    rw accepts (evidence, rw (accepts, given) at stands, is)
