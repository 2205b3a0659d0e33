-- What counts for the steps of a layout over a bundle (in-toto 1.0 section 5.2, verifying the final
-- product).
use Rattle.std.specs.Prelude.{◌≡◌, List, All, map}
use Rattle.std.specs.List.{AllZip}
use Rattle.it_docs.specs.declared.layout.Layout.{Layout}
use Rattle.it_docs.specs.declared.step.Step.{Step}
use Rattle.it_chain.specs.Contents.{Contents}
use Rattle.it_chain.specs.CountedBodies.{Setting}
use Rattle.it_json_report.specs.declared.evidence.StepEvidence.{StepEvidence}
use Rattle.it_step_evidence.specs.CountsBy.{CountsAt, CountsBy, CountsUnder}
use Rattle.it_step_evidence.specs.Exactly.{AreExactly}

-- the key ids by which something counts for a step, and for each the names of the files by which it
-- counts, each with the place of the signature by which its envelope counts
pub record IsStepEvidence (setting : Setting) (layout : Layout) (bundle : Contents) (step : Step)
    (found : StepEvidence) : Type 0 where
  pub name_is : found.name ≡ step.name
  pub keys_are : AreExactly (CountsUnder setting layout bundle step)
      (map (λ key. key.id) found.keys)
  pub files_are : All (λ key. AreExactly (CountsBy setting layout bundle step key.id) key.files)
      found.keys
  pub signatures_are : All (λ key. AllZip (CountsAt setting layout bundle step key.id) key.files
      key.signatures) found.keys

-- the same for each step of a layout, in its order
abbrev pub AreStepEvidence : Setting → Layout → Contents → List StepEvidence → Type 0
AreStepEvidence setting layout bundle =
    AllZip (IsStepEvidence setting layout bundle) layout.steps
