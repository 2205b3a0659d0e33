-- What stands behind a delivery that is accepted (this profile's choice of what is told).
use Rattle.std.specs.Prelude.{◌≡◌, List, codes}
use Rattle.std.specs.FinMap.{entries}
use Rattle.std.specs.List.{AllZip}
use Rattle.sha2.specs.Sha256.{sha256}
use Rattle.it_base.specs.Document.{OfDocument}
use Rattle.it_base.specs.Parts.{IsPart}
use Rattle.it_base.specs.Text.{IsText}
use Rattle.it_digest.specs.Sums.{lines_of}
use Rattle.it_dsse.specs.Panel.{Panel}
use Rattle.it_file_evidence.specs.FileEvidence.{IsFileEvidence}
use Rattle.it_json_report.specs.declared.evidence.Evidence.{Evidence as Told}
use Rattle.it_step_evidence.specs.StepEvidence.{AreStepEvidence}
use Rattle.it_verify.specs.declared.documents.Documents.{Documents}
use Rattle.it_verify.specs.declared.evidence.Evidence.{Evidence}
use Rattle.it_verify.specs.declared.inputs.Inputs.{Inputs}
use Rattle.it_verify.specs.Made.{IsMadeBy}
use Rattle.it_vouched.specs.declared.vouched.Vouched.{Vouched}

-- the delivered files were made as the owners prescribed; this is the moment that was handed in,
-- these are the SHA-256 of the policy and of the layout's envelope, and this is the layout's
-- `expires`; and these are the key ids that count for each step, and what stands for each file,
-- with who signed as far as lines vouch for it
pub record IsBehind (panel : Panel) (vouched : List Vouched) (inputs : Inputs) (told : Told)
    : Type 0 where
  pub documents : Documents
  pub evidence : Evidence
  pub made : IsMadeBy panel inputs documents evidence
  pub moment_is : told.moment ≡ inputs.moment
  pub policy_is : told.policy ≡ sha256 inputs.policy
  pub layout_is : told.layout ≡ sha256 inputs.layout
  pub expires_is : OfDocument (IsPart IsText (codes "expires")) documents.envelope.payload
      told.expires
  pub steps_are : AreStepEvidence (record { panel = panel; moment = documents.moment })
      documents.layout inputs.links told.steps
  pub files_are : AllZip (IsFileEvidence panel vouched (lines_of inputs.provenance)
      documents.policy.expectations) (entries documents.delivered) told.files
