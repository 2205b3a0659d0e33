-- What is found in the policy, in the layout and in the sublayouts of a delivery that is accepted
-- (words of this project).
use Rattle.std.specs.Prelude.{◌≡◌, List, ◌++◌}
use Rattle.it_dsse.specs.Panel.{Panel}
use Rattle.it_findings.specs.declared.finding.Finding.{Finding}
use Rattle.it_strict.specs.Below.{AreFoundBelow}
use Rattle.it_strict.specs.Counting.{LayoutCounting}
use Rattle.it_strict.specs.Found.{PolicyFound}
use Rattle.it_verify.specs.Made.{IsMadeBy}
use Rattle.it_verify.specs.declared.documents.Documents.{Documents}
use Rattle.it_verify.specs.declared.evidence.Evidence.{Evidence}
use Rattle.it_verify.specs.declared.inputs.Inputs.{Inputs}
use Rattle.it_notes.specs.declared.found_in_documents.FoundInDocuments.{FoundInDocuments}

-- the delivered files were made as the owners prescribed, and this is what is found in the policy
-- all the same, and then in the layout, as far as it counts, and in the sublayouts that count
pub record AreFoundInDocuments (panel : Panel) (inputs : Inputs) (found : FoundInDocuments)
    : Type 0 where
  pub documents : Documents
  pub evidence : Evidence
  pub made : IsMadeBy panel inputs documents evidence
  pub of_policy : List Finding
  pub in_policy : PolicyFound inputs.policy documents of_policy
  pub of_layout : List Finding
  pub in_layout : LayoutCounting documents.envelope.payload documents.layout evidence.steps
      of_layout
  pub are_all : found.of_documents.items ≡ of_policy ++ of_layout
  pub below : AreFoundBelow panel inputs documents found.below.items
