-- When delivered files were made as the owners prescribed (in-toto 1.0 section 5.2, verifying the
-- final product; SLSA v1.0, verifying artifacts).
use Rattle.std.specs.FinMap.{empty, keys, get}
use Rattle.std.specs.List.{AllZip}
use Rattle.std.specs.Prelude.{◌≡◌, ◌≢◌, ℕ, List, Some, map}
use Rattle.it_digest.specs.declared.compare.DigestSet.{DigestSet}
use Rattle.it_dsse.specs.Panel.{Panel}
use Rattle.it_docs.specs.declared.rule.Side.TheVariants.{Products}
use Rattle.it_rules.specs.Rules.{RulesHold}
use Rattle.it_report.specs.declared.verdict.Verdict.{Verdict}
use Rattle.it_report.specs.declared.verdict.Verdict.TheVariants.{Accepted}
use Rattle.it_verify.specs.Delivered.{delivery}
use Rattle.it_verify.specs.Documents.{Documents, ReadAs}
use Rattle.it_verify.specs.Evidence.{Evidence, IsEvidence, evidence_links}
use Rattle.it_verify.specs.Inspections.{InspectionRulesHold}
use Rattle.it_verify.specs.Owners.{OwnersSign}
use Rattle.it_verify.specs.Provenance.{HasProvenance}
use Rattle.it_verify.specs.declared.inputs.Inputs.{Inputs}

-- the inputs read as these documents with this evidence, and all that was prescribed holds: some
-- file is delivered, every owner of the policy signed the layout, the layout holds for the links
-- and each inspection has its record, every artifact rule holds, and each delivered file has
-- provenance
pub record IsMadeBy (panel : Panel) (inputs : Inputs) (documents : Documents)
    (evidence : Evidence) : Type 0 where
  pub read : ReadAs inputs documents
  pub some_file : documents.delivered ≢ empty
  pub owners : OwnersSign panel documents.envelope documents.policy.owners
  pub is_evidence : IsEvidence panel inputs documents evidence
  pub inspection_rules : AllZip
      (InspectionRulesHold (evidence_links evidence)) documents.layout.inspections
      evidence.inspections
  pub deliver_rules : RulesHold documents.policy.deliver Products (delivery documents.delivered)
      (evidence_links evidence)
  pub provenance : (path : List ℕ) (digests : DigestSet)
      → get documents.delivered path ≡ Some digests
      → HasProvenance panel inputs documents.policy.expectations path digests

-- the delivered files were made as the owners prescribed
pub record Made (panel : Panel) (inputs : Inputs) : Type 0 where
  pub documents : Documents
  pub evidence : Evidence
  pub made : IsMadeBy panel inputs documents evidence

-- the verdict that accepts: each step with how many different keys signed for it, and the delivered
-- files in the order of their paths' bytes
abbrev pub verdict_of : Documents → Evidence → Verdict
verdict_of documents evidence =
    Accepted (map (λ result. (result.name, result.keys)) evidence.steps) (keys documents.delivered)
